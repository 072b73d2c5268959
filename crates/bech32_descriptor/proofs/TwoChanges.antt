-- Two characters of a text changed, one after the other.
use Rattle.std.specs.Prelude.{◌≢◌, bit_xor, map, set}
use Rattle.std.specs.List.{AllByRecursion}
use Rattle.std.specs.Int.Bits.{xor_assoc, xor_self, xor_zero_r}
use Rattle.std.proofs.Common.{◌≡◌, ◌<◌, ℕ, List, [], ◌∷◌, get_or, length, inl, inr, sym, ap, subst, ◌∙◌, refl, arith}
use Rattle.std.proofs.lemmas.List.{get_or-set_other, length-set}
use Rattle.std.proofs.lemmas.Nat.{xor_comm}
use Rattle.bech32_poly.specs.Distinct.{IsAmong}
use Rattle.bech32_descriptor.specs.Descriptor.{IsDescriptor, polynomial_of}
use Rattle.bech32_descriptor.specs.Edits.{AreAllMends, IsMendBefore, IsPrinted, IsToldAt, IsToldMend, byte_put, kind_of_change, made, made_at}
use Rattle.bech32_descriptor.specs.Listings.{AreOrdered}
use Rattle.bech32_descriptor.specs.Marks.{IsMarked}
use Rattle.bech32_descriptor.specs.PairWalks.{IsMendBelow, IsTwoAt, IsTwoBy, MarksChangesBelow, beside}
use Rattle.bech32_descriptor.specs.Pairs.{AreAllByTwo, IsMendByTwo, IsTwoBefore}
use Rattle.bech32_descriptor.specs.Walks.{IsReady, change_in}
use Rattle.bech32_descriptor.specs.declared.edits.Change.{Change}
use Rattle.bech32_descriptor.specs.declared.edits.Change.TheVariants.{Changed, LeftOut, PutIn, Swapped}
use Rattle.bech32_descriptor.specs.declared.edits.Edit.{Edit}
use Rattle.bech32_descriptor.specs.declared.edits.TwoEdits.{TwoEdits}
use Rattle.bech32_descriptor.proofs.Rewritten.{changed_ready}
use Rattle.bech32_descriptor.proofs.Told.{is_changed, same_edit}
use Rattle.bech32_descriptor.proofs.Words.{target_alone}

-- a change of one character makes the text with that byte
pub made_changed : (text : List ℕ) (e : Edit) → kind_of_change e.change ≡ 0 → made e text ≡ set text e.place (byte_put e.change)
made_changed text e k = ap (λ (c : Change). made_at e.place c text) (is_changed e.change (byte_put e.change) k refl)

pub length_changed : (text : List ℕ) (e : Edit) → kind_of_change e.change ≡ 0 → length (made e text) ≡ length text
length_changed text e k = ap (λ (u : List ℕ). length u) (made_changed text e k) ∙ length-set text e.place (byte_put e.change)

-- it is told wherever the text is as long, and has the same byte at its place
told_as : (text other : List ℕ) (i : ℕ) (c : Change) → kind_of_change c ≡ 0 → length other ≡ length text → get_or other i 0 ≡ get_or text i 0 → IsToldAt i c text → IsToldAt i c other
told_as text other i (Changed b) k size same t = (omega (arith, size, t.0), t.1, λ e. t.2 (sym same ∙ e))
told_as text other i Swapped k size same t = absurd (omega (arith, k))
told_as text other i LeftOut k size same t = absurd (omega (arith, k))
told_as text other i (PutIn b) k size same t = absurd (omega (arith, k))

told_within : (text : List ℕ) (i : ℕ) (c : Change) → kind_of_change c ≡ 0 → IsToldAt i c text → (i < length text) × IsPrinted (byte_put c)
told_within text i (Changed b) k t = (t.0, t.1)
told_within text i Swapped k t = absurd (omega (arith, k))
told_within text i LeftOut k t = absurd (omega (arith, k))
told_within text i (PutIn b) k t = absurd (omega (arith, k))

pub second_within : (text : List ℕ) (e : TwoEdits) → IsMendByTwo text e → (e.second.place < length text) × IsPrinted (byte_put e.second.change)
second_within text e m = told_within text e.second.place e.second.change m.second_changes.0 m.second_changes.1

-- a byte elsewhere
elsewhere : (text : List ℕ) (i j c : ℕ) → i < j → get_or (set text j c) i 0 ≡ get_or text i 0
elsewhere text i j c low = get_or-set_other text j i c 0 (λ e. omega (arith, e, low))

-- the first of two changes is told in what the second one makes
pub told_half : (text : List ℕ) (e : TwoEdits) → IsMendByTwo text e → IsToldMend e.first (made e.second text)
told_half text e m =
    let k = m.second_changes.0 in
    told_as text (made e.second text) e.first.place e.first.change m.first_changes.0 (length_changed text e.second k)
    (ap (λ (u : List ℕ). get_or u e.first.place 0) (made_changed text e.second k) ∙ elsewhere text e.first.place e.second.place (byte_put e.second.change) m.apart)
    m.first_changes.1

-- ---- order

pub second_place_first : (text : List ℕ) (x y : TwoEdits) → IsMendByTwo text x → IsMendByTwo text y → x.second.place < y.second.place → IsTwoBefore x y
second_place_first text x y p q less = inl (inr (p.second_changes.0 ∙ sym q.second_changes.0, inl less))

pub second_byte_first : (text : List ℕ) (i : ℕ) (x y : TwoEdits) → IsTwoAt text i x → IsTwoAt text i y → byte_put x.second.change < byte_put y.second.change → IsTwoBefore x y
second_byte_first text i x y p q less = inl (inr (p.0.second_changes.0 ∙ sym q.0.second_changes.0, inr (p.1 ∙ sym q.1, less)))

-- ---- one second change

module _ (second : Edit) where
  each_beside : (P : Edit → Type 0) (Q : TwoEdits → Type 0) (xs : List Edit) → ((e : Edit) → P e → Q (beside second e)) → AllByRecursion P xs → AllByRecursion Q (map (beside second) xs)
  each_beside P Q [] to h = tt
  each_beside P Q (x ∷ xs) to h = (to x h.0, each_beside P Q xs to h.1)

  among_beside : (x : Edit) (xs : List Edit) → IsAmong x xs → IsAmong (beside second x) (map (beside second) xs)
  among_beside x [] h = absurd h
  among_beside x (y ∷ xs) (inl e) = inl (ap (beside second) e)
  among_beside x (y ∷ xs) (inr h) = inr (among_beside x xs h)

  order_beside : (xs : List Edit) → AreOrdered IsMendBefore xs → AreOrdered IsTwoBefore (map (beside second) xs)
  order_beside [] h = tt
  order_beside (x ∷ xs) h = (each_beside (IsMendBefore x) (IsTwoBefore (beside second x)) xs (λ y less. inr (refl, less)) h.0, order_beside xs h.1)

second_is : (text : List ℕ) (j c : ℕ) (p : TwoEdits) → IsTwoBy text j c p → p.second ≡ record { place = j; change = Changed c }
second_is text j c p h = same_edit p.second j (Changed c) h.0.1 (is_changed p.second.change c h.0.0.second_changes.0 h.1)

module _ (text : List ℕ) (j c : ℕ) (within : j < length text) (printed : IsPrinted c) (other : get_or text j 0 ≢ c) where
  abbrev second : Edit
  second = record { place = j; change = Changed c }

  first_to : (e : Edit) → IsMendBelow (set text j c) j e → IsTwoBy text j c (beside second e)
  first_to e h =
      let k = h.0.0 in
      let told = h.0.1.0 in
      let right = h.0.1.1 in
      let low = h.1 in
      let told_here = told_as (set text j c) text e.place e.change k (sym (length-set text j c)) (sym (elsewhere text e.place j c low)) told in
      ((record { apart = low; first_changes = (k, told_here); second_changes = (refl, (within, printed, other)); right = right }, refl), refl)

  first_from : (p : TwoEdits) → IsTwoBy text j c p → IsMendBelow (set text j c) j p.first
  first_from p h =
      let m = h.0.0 in
      let same : made p.second text ≡ set text j c = ap (λ (e : Edit). made e text) (second_is text j c p h) in
      let low : p.first.place < j = omega (arith, m.apart, h.0.1) in (
        (
          m.first_changes.0,
          (subst (λ (u : List ℕ). IsToldMend p.first u) same (told_half text p m), subst (λ (u : List ℕ). IsDescriptor (made p.first u)) same m.right),
        ),
        low,
      )

  -- all first changes beside the second one
  pub all_beside : (xs : List Edit) → AreAllMends (IsMendBelow (set text j c) j) xs → AreAllByTwo (IsTwoBy text j c) (map (beside second) xs)
  all_beside xs a = record {
    each = each_beside second (IsMendBelow (set text j c) j) (IsTwoBy text j c) xs first_to a.each;
    all = λ p h. subst (λ (u : TwoEdits). IsAmong u (map (beside second) xs)) (λ i. record { first = p.first; second = sym (second_is text j c p h) i })
        (among_beside second p.first xs (a.all p.first (first_from p h)));
    in_order = order_beside second xs a.in_order;
  }

-- ---- no first change

added : (x y z : ℕ) → bit_xor x y ≡ z → y ≡ bit_xor x z
added x y z h =
    sym (ap (bit_xor x) (sym h) ∙ sym (xor_assoc x x y) ∙ ap (λ (m : ℕ). bit_xor m y) (xor_self x) ∙ xor_comm 0 y ∙ xor_zero_r y)

pub none_by : (rows text cells : List ℕ) (word j c : ℕ) → IsReady rows text word → j < length text → MarksChangesBelow cells rows (length text) j
    → (IsMarked cells (bit_xor (bit_xor word (change_in rows text j c)) 1) → ⊥) → (p : TwoEdits) → IsTwoBy text j c p → ⊥
none_by rows text cells word j c ready within marks none p h =
    let m = h.0.0 in
    let t = set text j c in
    let i = p.first.place in
    let b = byte_put p.first.change in
    let sum = bit_xor word (change_in rows text j c) in
    let size : length t ≡ length text = length-set text j c in
    let same : made p.second text ≡ t = made_changed text p.second m.second_changes.0 ∙ (λ k. set text (h.0.1 k) (h.1 k)) in
    let low : i < j = omega (arith, m.apart, h.0.1) in
    let inside : i < length t = omega (arith, size, low, within) in
    let both : IsReady rows (set t i b) (bit_xor sum (change_in rows t i b)) = changed_ready rows t sum i b (changed_ready rows text word j c ready within) inside in
    let right : IsDescriptor (set t i b) =
    subst IsDescriptor (ap (λ (u : List ℕ). made p.first u) same ∙ made_changed t p.first m.first_changes.0) m.right in
    let is : change_in rows t i b ≡ bit_xor sum 1 = added sum (change_in rows t i b) 1 (target_alone (bit_xor sum (change_in rows t i b)) (polynomial_of (set t i b)) both.word_is right.has_target) in
    none (subst (IsMarked cells) is (marks i low t b size))

-- a byte is not changed to itself
pub not_same : (text : List ℕ) (j c : ℕ) (p : TwoEdits) → IsTwoBy text j c p → get_or text j 0 ≡ c → ⊥
not_same text j c p h same =
    let m = h.0.0 in
    let is = second_is text j c p h in
    (subst (λ (e : Edit). IsToldMend e text) is m.second_changes.1).2 same

-- a shorter text is not mended
pub none_short : (text : List ℕ) (e : TwoEdits) → length text < 9 → IsMendByTwo text e → ⊥
none_short text e short m =
    let half = length_changed text e.second m.second_changes.0 in
    let whole = length_changed (made e.second text) e.first m.first_changes.0 in
    omega (arith, m.right.grammar.parts.long, whole, half, short)
