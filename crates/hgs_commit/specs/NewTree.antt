-- What contracts see of a tree that is under way.
use Rattle.hgs_commit.specs.Tree.{OfTree}
use Rattle.hgs_commit.specs.declared.tree.NewTree.{NewTree}

abbrev pub tree_of : NewTree → OfTree
tree_of tree = record {
  first = tree.first;
  second = tree.second;
  rows = tree.rows;
  changed = tree.changed.items;
  growth = tree.growth.items;
  lines = tree.lines.items;
}
