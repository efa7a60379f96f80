-- Names name the same in what was loaded and in the repository.
use Rattle.std.proofs.Common.{◌≡◌, ℕ, List, [], ◌∷◌, ◌||◌, ◌&&◌, cond, length, refl, sym, ◌∙◌, ap}
use Rattle.std.proofs.lemmas.List.{length-map}
use Rattle.std.specs.Prelude.{Option, None, Result, Ok, is_none, codes}
use Rattle.hgs_bytes.specs.Bytes.{same}
use Rattle.hgs_files.specs.Tree.{Tree}
use Rattle.hgs_index.specs.declared.entry.Entry.{Entry}
use Rattle.hgs_model.specs.History.{first_of}
use Rattle.hgs_model.specs.Names.{last_of, named as model_named, node_named, number_named}
use Rattle.hgs_model.specs.Repo.{Repo}
use Rattle.hgs_model.specs.Step.{◌>>=◌, named_all as model_named_all, or_unknown}
use Rattle.hgs_model.specs.declared.command.Refusal.{Refusal}
use Rattle.hgs_load.specs.Marks.{Working}
use Rattle.hgs_reader.specs.Names.{named}
use Rattle.hgs_stands.specs.Stands.{Stands}
use Rattle.hgs_steps.specs.declared.loaded.Loaded.{Loaded}
use Rattle.hgs_steps.specs.Below.{Below}
use Rattle.hgs_steps.specs.Loaded.{view_of}
use Rattle.hgs_steps.specs.Parents.{named_all}
use Rattle.hgs_steps.specs.Planned.{HoldsRepository}
use Rattle.hgs_steps.proofs.MarkLemmas.{target-same}
use Rattle.hgs_steps.proofs.ViewLemmas.{room}

-- what a name names, by what its parts of the rule name
abbrev name_form : List ℕ → Option ℕ → ℕ → Option ℕ → Option ℕ → Option ℕ
name_form name first count node mark =
    cond (same name (codes "null")) None (cond (same name (codes ".")) first (cond (same name (codes "tip")) (last_of count) (first_of (number_named count name) (first_of node mark))))

pub named-same : (laws : Below) (t : Tree) (r : Repo) (l : Loaded) (name : List ℕ) → Stands t r → HoldsRepository l r → named (view_of l) name ≡ model_named r name
named-same laws t r l name s is =
    let first = ap (λ (w : Working). w.0) is.working in
    let count : length l.changelog.entries ≡ length r.changesets = sym (length-map l.changelog.entries (λ (e : Entry). e.node.0)) ∙ ap (λ (known : List (List ℕ)). length known) is.nodes ∙ sym (room laws r s.repository) in
    let node = ap (λ (known : List (List ℕ)). node_named known name) is.nodes in
    let mark = target-same laws t r l name s is in
    λ i. name_form name (first i) (count i) (node i) (mark i)

-- the changesets of a name, where it means no parent or names one, and of the names behind it
abbrev name_then : List ℕ → Option ℕ → Option ℕ → Result (List ℕ) Refusal → Result (List ℕ) Refusal
name_then name first rev more = cond (same name (codes "null") || (same name (codes ".") && is_none first)) more (or_unknown rev >>= λ x. more >>= λ revs. Ok (x ∷ revs))

pub named-all-same : (laws : Below) (t : Tree) (r : Repo) (l : Loaded) (names : List (List ℕ)) → Stands t r → HoldsRepository l r → named_all l names ≡ model_named_all r names
named-all-same laws t r l [] s is = refl
named-all-same laws t r l (name ∷ names) s is =
    let rev = named-same laws t r l name s is in
    let more = named-all-same laws t r l names s is in
    let first = ap (λ (w : Working). w.0) is.working in
    λ i. name_then name (first i) (rev i) (more i)
