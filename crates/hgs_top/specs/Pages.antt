-- The pages that the program shows of itself.
use Rattle.std.specs.Prelude.{ℕ, List, [], ◌∷◌, codes, None}
use Rattle.hgs_bytes.specs.Text.{lines}
use Rattle.hgs_top.specs.declared.pages.Page.{Page}
use Rattle.hgs_top.specs.declared.pages.Page.TheVariants.{Help, Version}
use Rattle.hgs_top.specs.Outcome.{Outcome}

-- the lines of a page
abbrev pub page_lines : Page → List (List ℕ)
page_lines Help =
    codes "usage: hg_store COMMAND" ∷
    codes "" ∷
    codes "Reads and writes the Mercurial repository whose .hg stands in the current folder." ∷
    codes "" ∷
    codes "  log                        a line for each changeset, newest first" ∷
    codes "  heads                      number and node of each changeset without a child" ∷
    codes "  files REV                  node, flag and path of each file of a changeset" ∷
    codes "  cat REV PATH               the body of one of these files" ∷
    codes "  bookmarks                  name, number and node of each bookmark" ∷
    codes "  parents                    number and node of each working parent" ∷
    codes "  phase REV                  public, draft or secret" ∷
    codes "  revset EXPR                number and node of each member of a set of changesets" ∷
    codes "  branches [--steps K]       branch, number and node of each head of each branch" ∷
    codes "  init                       makes an empty repository" ∷
    codes "  commit                     commits the record on standard input; bin/record prints one" ∷
    codes "  import                     commits the records on standard input, all at once" ∷
    codes "  phase [--force] REV PHASE  sets a phase" ∷
    codes "  bookmark NAME REV          sets a bookmark" ∷
    codes "  bookmark --delete NAME     deletes one" ∷
    codes "  verify [--jobs N]          says what is wrong with the repository, and changes nothing" ∷
    codes "  gen SEED COUNT             makes a repository of changesets that a number gives, and verifies it" ∷
    codes "  recover                    undoes a transaction that was left unfinished" ∷
    codes "  play                       plays the schedule on standard input, in memory" ∷
    codes "  session                    runs the script on standard input, with its workers at the same time" ∷
    codes "  --help                     this page" ∷
    codes "  --version                  the program, and the kit that it is proved with" ∷
    codes "" ∷
    codes "REV is . for the first working parent, tip, a number, 40 hex digits of a node, or a bookmark." ∷
    codes "Behind a word -- a word may begin with -." ∷
    codes "" ∷
    codes "Exit statuses:" ∷
    codes "   0  it was done" ∷
    codes "   1  there was nothing to recover" ∷
    codes "  10  somebody else writes" ∷
    codes "  11  an earlier transaction was left unfinished" ∷
    codes "  12  no changeset has the name" ∷
    codes "  13  nothing would change" ∷
    codes "  14  the input is no record, no schedule or no script" ∷
    codes "  15  a file does not hold what it should" ∷
    codes "  16  the system failed a call on a file" ∷
    codes "  17  the transaction was left unfinished: see recover" ∷
    codes "  18  the system failed to read the input" ∷
    codes "  19  the system failed a write, or the reader of the output has gone" ∷
    codes "  20  a limit is passed" ∷
    codes "  21  another text has the same node" ∷
    codes "  22  two paths would have the same files" ∷
    codes "  23  the changeset has no such file, or a copy's source is none of its parent's" ∷
    codes "  24  there is no repository here" ∷
    codes "  25  there is one already" ∷
    codes "  26  the phase is raised only by --force" ∷
    codes "  27  the repository requires a word that is not of the profile, or lacks one" ∷
    codes "  28  the words do not fit" ∷
    codes "  29  the repository has findings, a line for each: file, revision and kind" ∷
    codes "  30  there was no memory" ∷
    codes "  32  a copy's path is that of a file of a parent" ∷
    codes "  33  the text is no set of changesets" ∷
    codes "  34  a file that is not the store's is in the way" ∷
    codes "" ∷
    codes "More: man hg_store, and docs/ANSWERS.md." ∷ []
page_lines Version = codes "hg_store 0.1, proved with rattle-kit-13f logic dac8208d650f15bf" ∷ []

abbrev pub page_text : Page → List ℕ
page_text page = lines (page_lines page)

-- a page is told whole
abbrev pub page_outcome : Page → Outcome
page_outcome page = record { text = page_text page; refusal = None }
