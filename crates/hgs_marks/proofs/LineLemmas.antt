-- The nodes of lines, one after another.
use Rattle.std.proofs.Common.{◌≡◌, ℕ, ◌+◌, Bool, List, [], ◌∷◌, ◌++◌, Result, Ok, Err, append_assoc, append-nil, refl, sym, ◌∙◌, ap}
use Rattle.std.proofs.lemmas.List.{map_push}
use Rattle.hgs_bytes.specs.Text.{lines_of}
use Rattle.hgs_index.specs.declared.node.Node.{Node}
use Rattle.hgs_marks.specs.declared.fault.MarkFault.{MarkFault}
use Rattle.hgs_marks.specs.Bookmarks.{Mark, mark_of, mark_then, marks_from}
use Rattle.hgs_marks.specs.Lines.{line_nodes, mark_values, node_values}

abbrev pub nodes_onto : List (List ℕ) → Result (List Mark) MarkFault → Result (List (List ℕ)) MarkFault
nodes_onto front (Ok marks) = Ok (front ++ mark_values marks)
nodes_onto front (Err fault) = Err fault

-- the nodes so far and those of the lines behind them
abbrev pub nodes_of : List (List ℕ) → ℕ → List ℕ → Result (List (List ℕ)) MarkFault
nodes_of front n rest = nodes_onto front (marks_from n (lines_of rest))

then_onto : (front : List (List ℕ)) (m : Mark) (r : Result (List Mark) MarkFault) → nodes_onto front (mark_then (Ok m) r) ≡ nodes_onto (front ++ m.node ∷ []) r
then_onto front m (Ok marks) = ap Ok (sym (append_assoc front (m.node ∷ []) (mark_values marks)))
then_onto front m (Err e) = refl

pub first_nodes : (r : Result (List Mark) MarkFault) → nodes_onto [] r ≡ line_nodes r
first_nodes (Ok marks) = refl
first_nodes (Err e) = refl

pub all_nodes : (front : List (List ℕ)) → nodes_onto front (Ok []) ≡ Ok front
all_nodes front = ap Ok (append-nil front)

pub one_node : (old new : List Node) (node : Node) (m : Mark) (n k : ℕ) (rest line after : List ℕ) (whole : Bool) (all : Result (List (List ℕ)) MarkFault) → nodes_of (node_values old) n rest ≡ all → lines_of rest ≡ (line, whole) ∷ lines_of after → k ≡ n + 1
    → Ok m ≡ mark_of k line → node.0 ≡ m.node → new ≡ old ++ node ∷ [] → nodes_of (node_values new) k after ≡ all
one_node old new node m n k rest line after whole all inv lines count read is pushed =
    ap (λ l. nodes_of (node_values l) k after) pushed
    ∙ ap (λ l. nodes_of l k after) (map_push (λ (x : Node). x.0) old node ∙ ap (λ x. node_values old ++ x ∷ []) is)
    ∙ sym (then_onto (node_values old) m (marks_from k (lines_of after)))
    ∙ ap (λ r. nodes_onto (node_values old) (mark_then r (marks_from k (lines_of after)))) read
    ∙ ap (λ j. nodes_onto (node_values old) (mark_then (mark_of j line) (marks_from j (lines_of after)))) count
    ∙ ap (λ ls. nodes_onto (node_values old) (marks_from n ls)) (sym lines) ∙ inv

pub one_fault : (front : List (List ℕ)) (n k : ℕ) (e : MarkFault) (rest line after : List ℕ) (whole : Bool) (all : Result (List (List ℕ)) MarkFault) → nodes_of front n rest ≡ all → lines_of rest ≡ (line, whole) ∷ lines_of after → k ≡ n + 1
    → Err e ≡ mark_of k line → all ≡ Err e
one_fault front n k e rest line after whole all inv lines count read =
    sym inv ∙ ap (λ ls. nodes_onto front (marks_from n ls)) lines
    ∙ ap (λ j. nodes_onto front (mark_then (mark_of j line) (marks_from j (lines_of after)))) (sym count)
    ∙ ap (λ r. nodes_onto front (mark_then r (marks_from k (lines_of after)))) (sym read)
