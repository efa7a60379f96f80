use Rattle.std.proofs.Common.{◌≡◌, ◌∷◌, ◌||◌, sym, ◌∙◌, ap, subst}
use Rattle.hgs_bytes.specs.Bytes.{same}
use Rattle.hgs_path.specs.StoreName.{listed_name}
use Rattle.hgs_judge.specs.Report.{findings_in}
use Rattle.hgs_report.specs.Lines.{has_key}
use Rattle.hgs_report.specs.Names.{is_named}
use Rattle.hgs_report.proofs.NameLemmas.{Went, swapped, went-on}
use Rattle.hgs_report.proofs.names.add_names.Goals as goal

pub loop-path-preserved : goal.loop-path-preserved
loop-path-preserved c =
    let path = c.in-Some.path.now in
    let steps : c.loop-path.path-iterator ≡ path ∷ c.next.new.self = c.in-Some.ensures.steps in
    record {
      found = went-on c.args.listed.now c.args.inline.now.keys c.args.ext c.args.paths.now.keys c.next.new.self path (findings_in c.args.into.now.items) (findings_in c.loop-path.into.items) (findings_in c.add_name.new.into.items) c.loop-path.seen.taken.keys c.add_name.new.seen.taken.keys
          (subst (λ l. Went c.args.listed.now c.args.inline.now.keys c.args.ext c.args.paths.now.keys l (findings_in c.args.into.now.items) (findings_in c.loop-path.into.items) c.loop-path.seen.taken.keys) steps c.loop-path.invariant.found)
          c.in_ok-add_name.ensures.found
          c.in_ok-add_name.ensures.taken;
      named = λ name.
          ap (λ b. b || is_named c.next.new.self c.args.ext name) (c.in_ok-add_name.ensures.named name)
          ∙ swapped (same name (listed_name path c.args.ext)) (has_key c.loop-path.seen.named.keys name) (is_named c.next.new.self c.args.ext name)
          ∙ ap (λ l. has_key c.loop-path.seen.named.keys name || is_named l c.args.ext name) (sym steps)
          ∙ c.loop-path.invariant.named name;
    }
