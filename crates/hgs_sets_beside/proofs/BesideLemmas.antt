-- What a view that was loaded beside writers tells is what the repository tells that it shows.
use Rattle.std.proofs.Common.{◌≡◌, ◌≤◌, ℕ, List, length, map, Ok, sym, ◌∙◌, subst, arith}
use Rattle.hgs_bytes.specs.Bytes.{IsPrefixOf}
use Rattle.hgs_files.specs.Tree.{Tree}
use Rattle.hgs_files.specs.declared.op.Op.{Op}
use Rattle.hgs_headline.specs.WritersLog.{WritersLog, course_of}
use Rattle.hgs_index.specs.Revision.{ParentsBefore}
use Rattle.hgs_load.specs.View.{View}
use Rattle.hgs_members.specs.Story.{story_of}
use Rattle.hgs_members.specs.Text.{Prints}
use Rattle.hgs_model.specs.History.{changeset_nodes}
use Rattle.hgs_model.specs.IsRepo.{IsRepo}
use Rattle.hgs_model.specs.Names.{named as model_named}
use Rattle.hgs_model.specs.Repo.{Repo}
use Rattle.hgs_reader.specs.Names.{named}
use Rattle.hgs_revset.specs.Members.{Set, Story, story_of_repo, AreAlike}
use Rattle.hgs_revset.specs.Text.{set_text}
use Rattle.hgs_shown.specs.Shown.{IsViewOf}
use Rattle.hgs_stands.specs.Stands.{mark_of}
use Rattle.hgs_views.specs.Course.{IsCourse}
use Rattle.hgs_views.specs.Seen.{IsLoadedBetween, Numbers, seen}

-- what the crates below say
pub record Laws : Type 0 where
  pub course : (h : WritersLog) (first last : List Op) → IsPrefixOf last h.log → IsCourse (course_of h) first last
  pub repository : (h : WritersLog) (first last : List Op) (v : Numbers) (view : View) → IsPrefixOf last h.log → IsLoadedBetween (course_of h) first last v view → IsRepo (seen (course_of h) v)
  pub names : (h : WritersLog) (first last : List Op) (v : Numbers) (view : View) → IsPrefixOf last h.log → IsLoadedBetween (course_of h) first last v view → (name : List ℕ) → named view name ≡ model_named (seen (course_of h) v) name
  pub marks : (marked r : Repo) → IsRepo marked → IsPrefixOf marked.changesets r.changesets → map (mark_of (changeset_nodes marked.changesets)) marked.bookmarks ≡ map (mark_of (changeset_nodes r.changesets)) marked.bookmarks
  pub tells : (t : Tree) (r : Repo) (view : View) → IsRepo r → IsViewOf view t r → ((name : List ℕ) → named view name ≡ model_named r name) → AreAlike (story_of view) (story_of_repo r)
  pub text : (s t : Story) (a : Set) → AreAlike s t → set_text s a ≡ set_text t a

module _ (laws : Laws) (h : WritersLog) (first last : List Op) (v : Numbers) (view : View) (front : IsPrefixOf last h.log) (loaded : IsLoadedBetween (course_of h) first last v view) where
  shown : IsViewOf view ((course_of h).store v.read) (seen (course_of h) v)
  shown =
      let x = course_of h in
      let is = laws.course h first last front in
      let at = loaded.is_view in
      let order = loaded.order in
      let a = order.marked_worked in
      let b = order.worked_read in
      let c = order.read_rooted in
      let d = order.rooted_last in
      let le : v.marked ≤ v.read = omega (arith, a, b) in
      let low : v.read ≤ x.published last = omega (arith, c, d) in
      record {
        entries = at.entries;
        bookmarks = at.bookmarks ∙ laws.marks (x.repo v.marked) (x.repo v.read) (is.repository v.marked (omega (arith, le, low))) (is.goes_on v.marked v.read le low);
        working = at.working;
        phases = at.phases;
      }

  pub alike : AreAlike (story_of view) (story_of_repo (seen (course_of h) v))
  alike = laws.tells ((course_of h).store v.read) (seen (course_of h) v) view (laws.repository h first last v view front loaded) shown (laws.names h first last v view front loaded)

  pub before : ParentsBefore 0 (story_of view).parents
  before = subst (ParentsBefore 0) (sym alike.parents) (laws.repository h first last v view front loaded).parents

  pub printed : (a : Set) (text : List ℕ) → Prints (story_of view) a (Ok text) → text ≡ set_text (story_of_repo (seen (course_of h) v)) a
  printed a text prints = prints.1 before ∙ laws.text (story_of view) (story_of_repo (seen (course_of h) v)) a alike
