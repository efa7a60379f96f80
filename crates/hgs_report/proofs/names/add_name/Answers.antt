use Rattle.std.proofs.Common.{◌∙◌, ap}
use Rattle.hgs_path.specs.StoreName.{listed_name, store_name}
use Rattle.hgs_judge.specs.Report.{findings_in}
use Rattle.hgs_report.proofs.NameLemmas.{name-found}
use Rattle.hgs_report.proofs.names.add_name.Goals as goal

pub returns-clause-found : goal.returns-clause-found
returns-clause-found c = λ names before is entered.
    let path = c.args.path.now in
    let ext = c.args.ext in
    name-found names c.args.inline.now.keys ext before path c.in_ok-file.file c.in_ok-from_slice.field-0.items c.is_lacking-is_lacking.result c.in_ok-is_new.is_new c.args.seen.now.taken.keys (findings_in c.args.into.now.items) (findings_in c.add_file.new.into.items) (findings_in c.add_file-2.new.into.items)
    (c.in_ok-file.ensures ∙ ap (λ p. store_name p ext) c.as_slice-2.ensures) (c.is_lacking-is_lacking.ensures names is (c.deref.ensures.value ∙ c.in_ok-name.ensures ∙ ap (λ p. listed_name p ext) c.as_slice.ensures)) c.in_ok-is_new.ensures.new (c.in_ok-from_slice.ensures.items ∙ c.bytes.ensures.value) entered c.in_ok-add_file.ensures c.in_ok-add_file-2.ensures
