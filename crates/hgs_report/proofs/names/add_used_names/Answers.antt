use Rattle.std.proofs.Common.{◌≡◌, ◌⊎◌, [], ◌++◌, ◌||◌, ◌∙◌, ap}
use Rattle.std.specs.Prelude.{true, is_none, unwrap_or}
use Rattle.std.specs.List.{AllByRecursion}
use Rattle.hgs_files.specs.Tree.{bytes_at}
use Rattle.hgs_path.specs.declared.name.Ext.TheVariants.{I, D}
use Rattle.hgs_path.specs.ListedNames.{is_listed, names_of}
use Rattle.hgs_stands.specs.Places.{fncache_path}
use Rattle.hgs_findings.specs.Sight.{value}
use Rattle.hgs_judge.specs.Report.{findings_in}
use Rattle.hgs_report.specs.Lines.{file_if, has_key}
use Rattle.hgs_report.specs.Names.{IsBadList, IsNameOf, is_lacking, is_named, of_names}
use Rattle.hgs_report.proofs.UsedLemmas.{all-listed, both-added, list-read, none-from, names-added, unused-are}
use Rattle.hgs_report.proofs.names.add_used_names.Goals as goal

pub files_lacking-requires : goal.files_lacking-requires
files_lacking-requires c = all-listed (AllByRecursion (λ name. is_listed name ≡ true)) (names_of c.args.text.now) c.in_ok-names.names c.in_ok-names.ensures (λ names e. c.listed_names_name_files.ensures.read c.args.text.now names e)

pub returns-clause-found : goal.returns-clause-found
returns-clause-found c = λ t text used inlined.
    let inline = c.args.inline.now.keys in
    let old = findings_in c.args.into.now.items in
    let first = findings_in c.add_file.new.into.items in
    let second = findings_in c.add_names.new.into.items in
    let names = c.in_ok-names.names in
    let said : names ≡ value (names_of (bytes_at t fncache_path)) = c.in_ok-names.ensures ∙ ap (λ x. value (names_of x)) text in
    both-added t (λ file rev kind. IsBadList t file rev kind ⊎ IsNameOf t I file rev kind) (IsNameOf t D) old second (findings_in c.add_names-2.new.into.items)
    (both-added t (IsBadList t) (IsNameOf t I) old first second
    (list-read t old first (c.in_ok-add_file.ensures ∙ ap (λ b. old ++ file_if b c.args.path.now 4) (none-from names c.is_none.result c.is_none.ensures ∙ ap is_none said) ∙ ap (λ p. old ++ file_if (is_none (value (names_of (bytes_at t fncache_path)))) p 4) c.requires))
    (names-added t inline I first second inlined (c.in_ok-indexes.ensures.found names c.in_ok-listed.ensures ∙ ap (λ o. first ++ of_names (is_lacking o inline I) I [] c.args.used.now.keys) said ∙ ap (λ l. first ++ of_names (is_lacking (value (names_of (bytes_at t fncache_path))) inline I) I [] l) used)))
    (names-added t inline D second (findings_in c.add_names-2.new.into.items) inlined (c.in_ok-named.ensures.found names c.in_ok-listed.ensures ∙ ap (λ o. second ++ of_names (is_lacking o inline D) D [] c.args.used.now.keys) said ∙ ap (λ l. second ++ of_names (is_lacking (value (names_of (bytes_at t fncache_path))) inline D) D [] l) used))

pub returns-clause-unused : goal.returns-clause-unused
returns-clause-unused c = λ t text used.
    let names = c.in_ok-names.names in
    let said : names ≡ value (names_of (bytes_at t fncache_path)) = c.in_ok-names.ensures ∙ ap (λ x. value (names_of x)) text in
    c.in_ok-files.ensures
    ∙ unused-are t c.in_ok-named.named.keys c.in_ok-indexes.indexes.keys c.args.used.now.keys used
    (λ name. c.in_ok-indexes.ensures.named name ∙ ap (λ l. is_named c.args.used.now.keys I name || has_key l name) c.new.ensures.empty)
    (λ name. c.in_ok-named.ensures.named name)
    (unwrap_or names []) (ap (λ o. unwrap_or o []) said)
