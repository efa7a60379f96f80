-- A tree with nothing but what is required.
use Rattle.std.proofs.Common.{◌≡◌, ℕ, List, [], false, refl, sym, ap, subst}
use Rattle.std.specs.Prelude.{None}
use Rattle.std.specs.List.{AllByRecursion}
use Rattle.hgs_files.specs.Tree.{Tree, bytes_at}
use Rattle.hgs_index.specs.Revlog.{HoldsRevisions}
use Rattle.hgs_index.specs.Theorems.EitherLemmas.{separate-holds}
use Rattle.hgs_journal.specs.Names.{journal_path}
use Rattle.hgs_marks.specs.Bookmarks.{mark_lines}
use Rattle.hgs_marks.specs.Dirstate.{no_dirstate, read_dirstate}
use Rattle.hgs_model.specs.IsRepo.{IsRepo}
use Rattle.hgs_model.specs.Repo.{empty_repo}
use Rattle.hgs_path.specs.ListedNames.{names_of}
use Rattle.hgs_phases.specs.Roots.{read_roots}
use Rattle.hgs_stands.specs.Places.{changelog_data, changelog_index, manifest_data, manifest_index, store_files}
use Rattle.hgs_stands.specs.Requires.{IsInProfile}
use Rattle.hgs_stands.specs.Stands.{HoldsAt, Stands}
use Rattle.hgs_stands.specs.Theorems.Basics.{never, none-some}

nothing : HoldsRevisions [] [] []
nothing = record {
  header = record { inline = false; generaldelta = false };
  stored = [];
  these = refl;
  texts = tt;
  earlier = tt;
  fits = tt;
  different = refl;
  not_null = refl;
  form = refl;
  index_is = refl;
  data_is = refl;
}

holds-nothing : (t : Tree) (index data_path : List ℕ) → bytes_at t index ≡ [] → bytes_at t data_path ≡ [] → HoldsAt t index data_path []
holds-nothing t index data_path i d = separate-holds (bytes_at t index) (bytes_at t data_path) [] (subst (λ x. HoldsRevisions x (bytes_at t data_path) []) (sym i) (subst (λ x. HoldsRevisions [] x []) (sym d) nothing))

empty-is : IsRepo empty_repo
empty-is = record {
  parents = tt;
  changesets = tt;
  phase_count = refl;
  phases = λ rev p found. none-some p found;
  marks_ordered = refl;
  marks = tt;
  first_working = tt;
  second_working = tt;
}

pub empty-stands : (t : Tree) → IsInProfile t → AllByRecursion (λ path. bytes_at t path ≡ []) store_files → t journal_path ≡ None → Stands t empty_repo
empty-stands t profile none journal = record {
  repository = empty-is;
  requires = profile;
  revlogs = record {
    changelog = holds-nothing t changelog_index changelog_data none.1.1.1.1.0 none.1.1.1.1.1.0;
    manifest = holds-nothing t manifest_index manifest_data none.1.1.1.1.1.1.0 none.1.1.1.1.1.1.1.0;
    filelogs = λ path used. never (sym used);
    names = λ path other used. never (sym used);
  };
  fncache = record { names = []; text = ap names_of none.1.1.1.0; listed = λ path ext used. never (sym used); used = tt };
  phases = record { roots = []; text = ap read_roots none.1.1.0; known = refl; phases = refl };
  bookmarks = record { lines = []; text = ap mark_lines none.0; known = refl; marks = refl };
  dirstate = record { dirstate = no_dirstate; text = ap read_dirstate none.1.0; first = refl; second = refl; paths = λ path. refl };
  no_journal = journal;
}
