use Rattle.std.proofs.Common.{◌≡◌, ◌+◌, ℕ, true, false, [], ◌∷◌, ◌++◌, get_or, take, subst, refl, rules}
use Rattle.std.proofs.lemmas.List.{take_all, take_more}
use Rattle.print_block.specs.Words.{AreElementsOf}
use Rattle.print_block.proofs.Elements.{elements_start, elements_next}
use Rattle.print_block.proofs.words.elements_of.Goals as goal

refused : {P : Type 0} → false ≡ true → P
refused h = absurd (cc h)

pub loop-character-init : goal.loop-character-init
loop-character-init c = elements_start _ c.new-elements.ensures.items

pub loop-character-preserved : goal.loop-character-preserved
loop-character-preserved c =
    let word = c.args.word.now in
    let i : ℕ = c.loop-character.character-index in
    let item : ℕ = get_or word i 0 in
    let elements = c.loop-character.elements.items in
    let x = c.in-Ok.element in
    let more : take (i + 1) word ≡ take i word ++ (item ∷ []) = take_more word i 0 c.loop-character-test.true in
    let pushed : c.push.new.self.items ≡ elements ++ (x ∷ []) = search rules in
    elements_next (take i word) (take (i + 1) word) elements c.push.new.self.items item x c.loop-character.invariant (c.in-Ok.ensures.accepts.0 refl) c.in-Ok.ensures.value more pushed

pub returns-in-Err-clause-refused : goal.returns-in-Err-clause-refused
returns-in-Err-clause-refused c =
    let i : ℕ = c.loop-character.character-index in
    λ all. refused (c.in-Err.ensures.accepts.1 (all i 0 c.loop-character-test.true))

pub returns-clause-value : goal.returns-clause-value
returns-clause-value c =
    subst (λ w. AreElementsOf w c.loop-character.elements.items) (take_all c.loop-character.character-index c.args.word.now c.loop-character-test.false) c.loop-character.invariant
