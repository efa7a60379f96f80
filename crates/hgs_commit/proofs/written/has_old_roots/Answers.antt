use Rattle.std.proofs.Common.{◌≡◌, Bool, true, false, not, refl, sym, ◌∙◌, ap, true≢false}
use Rattle.hgs_revlog.specs.Load.{separate_at}
use Rattle.hgs_commit.proofs.StayLemmas.{new-before, old-roots}
use Rattle.hgs_commit.proofs.written.has_old_roots.Goals as goal

was-false : (b : Bool) → not b ≡ true → b ≡ false
was-false true e = absurd (true≢false (sym e))
was-false false e = refl

pub is_root-requires : goal.is_root-requires
is_root-requires c =
    new-before c.args.loaded.now.changelog.entries c.args.entry.now c.in-Ok.entry c.requires.entry (sym (c.in-Ok.ensures ∙ ap (separate_at c.args.entry.now) c.len.ensures))

pub returns-in-Ok : goal.returns-in-Ok
returns-in-Ok c = λ is.
    old-roots c.args.loaded.now c.args.phase c.args.entry.now c.in-Ok.entry c.requires.entries c.args.loaded.now.phases_fit c.requires.entry
    (sym (c.in-Ok.ensures ∙ ap (separate_at c.args.entry.now) c.len.ensures)) (sym c.is_root.ensures ∙ was-false c.is_root.result is)
