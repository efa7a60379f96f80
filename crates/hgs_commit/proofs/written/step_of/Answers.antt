use Rattle.std.proofs.Common.{◌∙◌, ap, length}
use Rattle.hgs_commit.proofs.PartLemmas.{ready}
use Rattle.hgs_commit.proofs.written.step_of.Goals as goal

pub returns-clause-ready : goal.returns-clause-ready
returns-clause-ready c =
    ready c.from_vec.result c.in_ok-appends.appends.items c.in_ok-roots.roots c.args.written.changeset.entry c.in_ok-after.after
    (c.from_vec.ensures ∙ c.in_ok-before.ensures) c.in_ok-appends.ensures.beside c.in_ok-appends.ensures.few (ap (λ e. e.path) c.requires.index) c.in_ok-after.ensures.files

pub returns-clause-parts : goal.returns-clause-parts
returns-clause-parts c = record {
  appends = c.in_ok-appends.appends.items;
  roots = c.in_ok-roots.roots;
  before = c.from_vec.ensures ∙ c.in_ok-before.ensures;
  beside = c.in_ok-appends.ensures.beside;
  are_roots = c.in_ok-roots.ensures.file;
  few = c.in_ok-appends.ensures.few;
  publishing = (ap (λ e. e.path) c.requires.index, ap (λ e. e.before) c.requires.index, ap (λ e. length e.bytes) c.requires.index ∙ c.requires.pushes.0);
  after = c.in_ok-after.ensures.files;
}
