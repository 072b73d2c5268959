use Rattle.std.proofs.Common.{◌≡◌, ◌&&◌, ℕ, List, Bool, true, false, length, map, take, sym, subst, ◌∙◌, refl, arith}
use Rattle.bech32_gf.specs.Fe32 as fe32
use Rattle.bech32_gf.specs.Fe32.{element_of, elements_of}
use Rattle.bech32_gf.specs.declared.gf32.Fe32.{Fe32}
use Rattle.bech32_gf.specs.laws.Fe32Laws.{is_field}
use Rattle.codex32_steady.specs.shares.Shares.{AreShares, IsDerived}
use Rattle.codex32_steady.proofs.Given.{agreeing, front_shares, giving, passed_more}
use Rattle.codex32_steady.proofs.Written.{as_long, length-mapped}
use Rattle.codex32_steady.proofs.shares.agreement.agree.Goals as goal

-- one more answer
more : {P Q A : Type 0} (s e : Bool) → (s ≡ true → P) → (s ≡ false → A → ⊥) → (e ≡ true → P → Q) → (e ≡ false → A → ⊥)
    → ((s && e) ≡ true → Q) × ((s && e) ≡ false → A → ⊥)
more false e holds fails one none = (λ t. absurd cc, λ _. fails refl)
more true true holds fails one none = (λ _. one refl (holds refl), λ t. absurd cc)
more true false holds fails one none = (λ t. absurd cc, λ _. none refl)

all : {A : Type 0} (s : Bool) → (s ≡ false → A → ⊥) → A → s ≡ true
all true fails a = refl
all false fails a = absurd (fails refl a)

pub is_given_by-agrees-requires-clause-shares : goal.is_given_by-agrees-requires-clause-shares
is_given_by-agrees-requires-clause-shares g c =
    subst (λ n. AreShares (map g.T.IndexedText.index_of (take c.args.count c.args.shares.now)) (map (λ t. elements_of (g.T.IndexedText.characters_of t)) (take c.args.count c.args.shares.now)) n)
    (sym c.loop-i.invariant.size)
    (front_shares is_field g.T.IndexedText.index_of (λ t. elements_of (g.T.IndexedText.characters_of t)) c.args.shares.now c.args.count (length c.args.room.now) c.requires.shares)

pub is_given_by-agrees-requires-clause-size : goal.is_given_by-agrees-requires-clause-size
is_given_by-agrees-requires-clause-size g c =
    sym (length-mapped element_of (g.T.IndexedText.characters_of c.index-shares-i.result))
    ∙ as_long (λ t. elements_of (g.T.IndexedText.characters_of t)) c.args.shares.now (length c.args.room.now) c.loop-i.i c.index-shares-i.result c.loop-i-test.true c.requires.shares.alike c.index-shares-i.is
    ∙ sym c.loop-i.invariant.size

pub loop-i-preserved : goal.loop-i-preserved
loop-i-preserved g c =
    let f = g.T.IndexedText.index_of in
    let elements : g.row.T.Denot → List Fe32 = λ t. elements_of (g.T.IndexedText.characters_of t) in
    let n : ℕ = length c.args.room.now in
    let front = take c.args.count c.args.shares.now in
    let u = c.index-shares-i.result in
    let size = c.loop-i.invariant.size in
    let one = λ (m : ℕ). IsDerived fe32.ops (map f front) (map elements front) m (f u) (elements u) in
    let answers = more c.loop-i.agrees c.is_given_by-agrees.result c.loop-i.invariant.derived c.loop-i.invariant.apart
    (λ yes before.
    passed_more (λ t. IsDerived fe32.ops (map f front) (map elements front) n (f t) (elements t)) c.args.shares.now c.args.count c.loop-i.i u c.loop-i-test.true c.index-shares-i.is
    (subst one size (c.is_given_by-agrees.ensures.answer.0 yes)) before)
    (λ no agree.
    let given : one n =
    giving is_field f elements c.args.shares.now c.args.count n c.requires.within c.requires.shares agree c.loop-i.i u c.loop-i.invariant.least c.loop-i-test.true c.index-shares-i.is in
    let yes = c.is_given_by-agrees.ensures.answer.1 (subst one (sym size) given) in
    absurd cc) in
    record {
      size = c.is_given_by-agrees.ensures.size ∙ size;
      least = omega (arith, c.loop-i.invariant.least);
      derived = answers.0;
      apart = answers.1;
    }

pub returns-clause-answer : goal.returns-clause-answer
returns-clause-answer g c = (
  λ yes.
      agreeing is_field g.T.IndexedText.index_of (λ t. elements_of (g.T.IndexedText.characters_of t)) c.args.shares.now c.args.count (length c.args.room.now) c.requires.within c.requires.shares
      (λ m t past within read. c.loop-i.invariant.derived yes m t past (omega (arith, within, c.loop-i-test.false)) read),
  all c.loop-i.agrees c.loop-i.invariant.apart,
)
