use Rattle.std.proofs.Common.{rules, ◌≡◌, List, ℕ, ◌+◌, [], ◌∷◌, ◌++◌, length, ap, ◌∙◌, arith, length-append}
use Rattle.std.specs.List.{AllZip}
use Rattle.std.proofs.lemmas.List.Elements.{same_from_all_zip}
use Rattle.hgs_mem.specs.Content.{joined}
use Rattle.hgs_mem.proofs.ContentLemmas.{one_behind}
use Rattle.hgs_mem.proofs.content.Content.and.Goals as goal

pub returns : goal.returns
returns c =
    let all : AllZip (λ (x y : List ℕ). y ≡ x) c.self.inside.pieces.items c.in_ok-pieces.pieces.items = search rules in
    let copied : c.in_ok-pieces.pieces.items ≡ c.self.inside.pieces.items = same_from_all_zip (λ (x y : List ℕ). y ≡ x) c.self.inside.pieces.items c.in_ok-pieces.pieces.items all (λ x y h. h) in
    let added : c.in_ok-from_slice.field-0 ≡ c.args.bytes.now = search rules in
    let view : joined c.self.inside.pieces.items ≡ c.args.self.now = search rules in
    let was : joined c.with_last.new.pieces.items ++ c.in_ok-last.last ≡ c.args.self.now ++ c.args.bytes.now =
    c.in_ok-last.ensures ∙ ap (λ l. joined l ++ c.in_ok-from_slice.field-0) copied ∙ ap (λ b. joined c.self.inside.pieces.items ++ b) added ∙ ap (λ s. s ++ c.args.bytes.now) view in
    let pushed : c.push.new.self.items ≡ c.with_last.new.pieces.items ++ c.in_ok-last.last ∷ [] = search rules in
    one_behind c.with_last.new.pieces.items c.push.new.self.items c.in_ok-last.last c.args.self.now c.args.bytes.now was pushed

pub invariant_of-result : goal.invariant_of-result
invariant_of-result c =
    let long : length (joined c.push.new.self.items) ≡ length (c.args.self.now ++ c.args.bytes.now) = ap length (returns c) in
    let len : c.self.inside.len ≡ length c.args.self.now = search rules in
    let sum : c.in-Some.len ≡ c.self.inside.len + length c.args.bytes.now = search rules in
    omega (arith, long, len, sum, length-append c.args.self.now c.args.bytes.now)
