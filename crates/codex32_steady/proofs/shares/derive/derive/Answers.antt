use Rattle.std.proofs.Common.{◌≡◌, ◌-◌, ◌<◌, ◌≤◌, ℕ, List, length, map, drop, get_or, sym, ap, subst, ◌∙◌, arith, refl, ◌∷◌}
use Rattle.std.proofs.lemmas.List.{drop_all}
use Rattle.bech32_gf.specs.Fe32 as fe32
use Rattle.bech32_gf.specs.Fe32.{element_of, elements_of}
use Rattle.bech32_gf.specs.declared.gf32.Fe32.{Fe32}
use Rattle.bech32_gf.specs.Field.{Ops, IsField}
use Rattle.bech32_gf.specs.laws.Fe32Laws.{is_field}
use Rattle.bech32_poly.specs.Polynomial.{add, scale}
use Rattle.bech32_poly.proofs.Lists.{add_comm, length-add, length-scale, length-zeros}
use Rattle.bech32_poly.proofs.Loops.{drop_back}
use Rattle.codex32_steady.specs.shares.Shares.{combined, IsDerived}
use Rattle.codex32_steady.proofs.ShareTexts.{combined_is_derived}
use Rattle.codex32_steady.proofs.Written.{as_long, map_at, length-mapped}
use Rattle.codex32_steady.proofs.shares.derive.derive.Goals as goal

-- one text more
one_more : {F : Type 0} {o : Ops F} (l : IsField o) (n : ℕ) (ws : List F) (texts : List (List F)) (i : ℕ) (w : F) (t target target' : List F) → 0 < i → i ≤ length ws → i ≤ length texts
    → target ≡ combined o n (drop i ws) (drop i texts) → w ≡ get_or ws (i - 1) w → t ≡ get_or texts (i - 1) t → target' ≡ add o target (scale o w t)
    → target' ≡ combined o n (drop (i - 1) ws) (drop (i - 1) texts)
one_more {F} {o} l n ws texts i w t target target' some within also before read text added =
    added ∙ add_comm l target (scale o w t) ∙ ap (add o (scale o w t)) before
    ∙ ap (λ u. combined o n u (t ∷ drop i texts)) (sym (drop_back ws i w some within read))
    ∙ ap (combined o n (drop (i - 1) ws)) (sym (drop_back texts i t some also text))

pub loop-i-init : goal.loop-i-init
loop-i-init g c =
    let o = fe32.ops in
    let ws = c.args.weights.now in
    let n : ℕ = length c.args.target.now in
    let texts = map (λ t. elements_of (g.T.IndexedText.characters_of t)) c.args.texts.now in
    record {
      within = omega arith;
      size = ap (λ u. length u) c.clear.ensures ∙ length-zeros is_field n;
      so_far = c.clear.ensures ∙ ap (λ u. combined o n u (drop (length ws) texts)) (sym (drop_all (length ws) ws (omega arith)));
    }

pub add_multiple-requires-clause-size : goal.add_multiple-requires-clause-size
add_multiple-requires-clause-size g c =
    let characters = g.T.IndexedText.characters_of c.index-texts-i.result in
    ap (λ u. length u) c.characters.ensures.value
    ∙ sym (length-mapped element_of characters)
    ∙ as_long (λ t. elements_of (g.T.IndexedText.characters_of t)) c.args.texts.now (length c.args.target.now) (c.loop-i.i - 1) c.index-texts-i.result
    (omega (arith, c.loop-i-test.true, c.loop-i.invariant.within, c.requires.count)) c.requires.alike c.index-texts-i.is
    ∙ sym c.loop-i.invariant.size

pub add_multiple-requires-clause-of_alphabet : goal.add_multiple-requires-clause-of_alphabet
add_multiple-requires-clause-of_alphabet g c = rw c.characters.ensures.value c.characters.ensures.of_alphabet

pub loop-i-preserved : goal.loop-i-preserved
loop-i-preserved g c =
    let l = is_field in
    let o = fe32.ops in
    let elements : g.row.T.Denot → List Fe32 = λ t. elements_of (g.T.IndexedText.characters_of t) in
    let texts = c.args.texts.now in
    let n : ℕ = length c.args.target.now in
    let i : ℕ = c.loop-i.i - 1 in
    let within : i < length texts = omega (arith, c.loop-i.invariant.within, c.requires.count) in
    let t = elements c.index-texts-i.result in
    let w = c.index-weights-i.result in
    let size : length t ≡ length c.loop-i.target = as_long elements texts n i c.index-texts-i.result within c.requires.alike c.index-texts-i.is ∙ sym c.loop-i.invariant.size in
    let scaled : length (scale o w t) ≡ length t = length-scale l w t in
    let added : c.add_multiple.new.target ≡ add o c.loop-i.target (scale o w t) =
    c.add_multiple.ensures ∙ ap (λ u. add o c.loop-i.target (scale o w (elements_of u))) c.characters.ensures.value in
    record {
      within = omega (arith, c.loop-i.invariant.within);
      size = ap (λ u. length u) added ∙ length-add l c.loop-i.target (scale o w t) (omega (arith, scaled, size)) ∙ c.loop-i.invariant.size;
      so_far = one_more l n c.args.weights.now (map elements texts) c.loop-i.i w t c.loop-i.target c.add_multiple.new.target
          c.loop-i-test.true c.loop-i.invariant.within (omega (arith, length-mapped elements texts, within)) c.loop-i.invariant.so_far c.index-weights-i.is
          (map_at elements texts i c.index-texts-i.result t within c.index-texts-i.is refl) added;
    }

pub returns-clause-derived : goal.returns-clause-derived
returns-clause-derived g c = λ indices x shares are.
    let o = fe32.ops in
    let ws = c.args.weights.now in
    let texts = map (λ t. elements_of (g.T.IndexedText.characters_of t)) c.args.texts.now in
    let n : ℕ = length c.args.target.now in
    let done : c.loop-i.i ≡ 0 = omega arith in
    let value : c.loop-i.target ≡ combined o n ws texts = c.loop-i.invariant.so_far ∙ ap (λ k. combined o n (drop k ws) (drop k texts)) done in
    subst (λ text. IsDerived o indices texts n x text) (sym value)
    (combined_is_derived is_field indices texts n x ws shares are)
