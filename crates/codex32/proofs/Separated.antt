-- What stands behind the last `1` of a text, as it is and as it is read.
use Rattle.std.proofs.Common.{◌≡◌, ℕ, suc, ◌+◌, ◌-◌, ◌<◌, ◌≤◌, Bool, false, cond, eqb, List, [], ◌∷◌, ◌++◌, Option, Some, None, length, take, drop, get_or, inl, inr, refl, sym, ap, ◌∙◌, arith}
use Rattle.std.proofs.Math.Seq.{drop-cons}
use Rattle.std.proofs.lemmas.Bool.{cases_Bool, ne_eqb, cond-true, cond-false}
use Rattle.std.proofs.lemmas.Bool.Decides.{eqb_tells}
use Rattle.std.proofs.lemmas.List.{take-append-drop}
use Rattle.std.proofs.lemmas.Option.{some_pair_parts}
use Rattle.bech32_decode.specs.Text.{IsText, before_byte, split_at_last}
use Rattle.bech32_decode.proofs.Texts.{split_at_last-data}
use Rattle.codex32.specs.Damaged.{AreParts, read_data, read_text, with_data_read}

-- ---- no `1`

no_some : (p : List ℕ × List ℕ) → ◌≡◌ {A = Option (List ℕ × List ℕ)} (Some p) None → ⊥
no_some p e = absurd (cc)

-- nothing, and the bytes behind
abbrev at_front : List ℕ → Option (List ℕ × List ℕ)
at_front bs = Some ([], bs)

none_parts : (b : ℕ) (o : Option (List ℕ × List ℕ)) (bs : List ℕ) → before_byte b o bs ≡ None → (o ≡ None) × (eqb b 49 ≡ false)
none_parts b (Some p) bs h = absurd (no_some (b ∷ p.0, p.1) h)
none_parts b None bs h = (
  refl,
  elim (cases_Bool (eqb b 49)) [
    | inl here ↦ absurd (no_some ([], bs) (sym (cond-true (eqb b 49) (at_front bs) None here) ∙ h))
    | inr other ↦ other
  ],
)

none_from : (b : ℕ) (o : Option (List ℕ × List ℕ)) (bs : List ℕ) → o ≡ None → eqb b 49 ≡ false → before_byte b o bs ≡ None
none_from b o bs e f = ap (λ (p : Option (List ℕ × List ℕ)). before_byte b p bs) e ∙ cond-false (eqb b 49) (at_front bs) None f

-- a character is `1` where it is read as `1`
read_one : (b : ℕ) → eqb (cond (eqb b 63) 48 b) 49 ≡ eqb b 49
read_one b = elim (eqb_tells b 63) [
  | inl h ↦ ap (λ (t : Bool). eqb (cond t 48 b) 49) h.0 ∙ sym (ne_eqb b 49 (λ e. omega (arith, e, h.1)))
  | inr h ↦ ap (λ (t : Bool). eqb (cond t 48 b) 49) h.0
]

pub none_read : (bs : List ℕ) → split_at_last bs ≡ None → split_at_last (read_data bs) ≡ None
unfolding split_at_last
none_read [] h = refl
none_read (b ∷ bs) h =
    let (rest, other) = none_parts b (split_at_last bs) bs h in
    none_from (cond (eqb b 63) 48 b) (split_at_last (read_data bs)) (read_data bs) (none_read bs rest) (read_one b ∙ other)

pub read_none : (bs : List ℕ) → split_at_last (read_data bs) ≡ None → split_at_last bs ≡ None
unfolding split_at_last
read_none [] h = refl
read_none (b ∷ bs) h =
    let (rest, other) = none_parts (cond (eqb b 63) 48 b) (split_at_last (read_data bs)) (read_data bs) h in
    none_from b (split_at_last bs) bs (read_none bs rest) (sym (read_one b) ∙ other)

-- ---- the last `1`

pub split_at : (front behind : List ℕ) → split_at_last behind ≡ None → split_at_last (front ++ (49 ∷ behind)) ≡ Some (front, behind)
unfolding split_at_last
split_at [] behind h = ap (λ (o : Option (List ℕ × List ℕ)). before_byte 49 o behind) h
split_at (b ∷ bs) behind h = ap (λ (o : Option (List ℕ × List ℕ)). before_byte b o (bs ++ (49 ∷ behind))) (split_at bs behind h)

pub record IsSplit (text front behind : List ℕ) : Type 0 where
  pub split : text ≡ front ++ (49 ∷ behind)
  pub last : split_at_last behind ≡ None

split_more : (b : ℕ) (o : Option (List ℕ × List ℕ)) (bs front behind : List ℕ) → split_at_last bs ≡ o → ((h d : List ℕ) → o ≡ Some (h, d) → IsSplit bs h d)
    → before_byte b o bs ≡ Some (front, behind) → IsSplit (b ∷ bs) front behind
split_more b (Some p) bs front behind e rec h =
    let (same_front, same_behind) = some_pair_parts (b ∷ p.0) front p.1 behind h in
    let is = rec p.0 p.1 refl in
    record {
      split = ap (λ (t : List ℕ). b ∷ t) is.split ∙ ap (λ (t : List ℕ). t ++ (49 ∷ p.1)) same_front ∙ ap (λ (t : List ℕ). front ++ (49 ∷ t)) same_behind;
      last = ap split_at_last (sym same_behind) ∙ is.last;
    }
split_more b None bs front behind e rec h = elim (eqb_tells b 49) [
  | inl here ↦
      let (same_front, same_behind) = some_pair_parts [] front bs behind (sym (cond-true (eqb b 49) (at_front bs) None here.0) ∙ h) in
      record {
        split = ap (λ (t : ℕ). t ∷ bs) here.1 ∙ ap (λ (t : List ℕ). t ++ (49 ∷ bs)) same_front ∙ ap (λ (t : List ℕ). front ++ (49 ∷ t)) same_behind;
        last = ap split_at_last (sym same_behind) ∙ e;
      }
  | inr other ↦ absurd (no_some (front, behind) (sym (sym (cond-false (eqb b 49) (at_front bs) None other.0) ∙ h)))
]

pub is_split : (text front behind : List ℕ) → split_at_last text ≡ Some (front, behind) → IsSplit text front behind
unfolding split_at_last
is_split [] front behind h = absurd (no_some (front, behind) (sym h))
is_split (b ∷ bs) front behind h = split_more b (split_at_last bs) bs front behind refl (λ p q e. is_split bs p q e) h

-- ---- a walk from the end

-- one byte more is no `1`
pub none-before : (bs : List ℕ) (at before : ℕ) → 0 < at → at ≤ length bs → before ≡ at - 1 → split_at_last (drop at bs) ≡ None → eqb (get_or bs before 0) 49 ≡ false
    → split_at_last (drop before bs) ≡ None
unfolding split_at_last
none-before bs at before some inside e none other =
    let next : suc before ≡ at = omega (arith, some, e) in
    let here : drop before bs ≡ get_or bs before 0 ∷ drop at bs =
    drop-cons bs before 0 (omega (arith, some, inside, e)) ∙ ap (λ (k : ℕ). get_or bs before 0 ∷ drop k bs) next in
    ap split_at_last here ∙ none_from (get_or bs before 0) (split_at_last (drop at bs)) (drop at bs) none other

-- a byte is the last `1`
pub cut-at : (text front behind : List ℕ) (at : ℕ) → at < length text → get_or text at 0 ≡ 49 → split_at_last (drop (at + 1) text) ≡ None
    → front ≡ take at text → behind ≡ drop (at + 1) text → split_at_last text ≡ Some (front, behind)
cut-at text front behind at within one none front_is behind_is =
    let next : suc at ≡ at + 1 = omega arith in
    let whole : text ≡ front ++ (49 ∷ behind) =
    sym (take-append-drop at text) ∙ ap (λ (t : List ℕ). take at text ++ t) (drop-cons text at 0 within ∙ ap (λ (k : ℕ). get_or text at 0 ∷ drop k text) next ∙ ap (λ (c : ℕ). c ∷ drop (at + 1) text) one)
    ∙ ap (λ (t : List ℕ). t ++ (49 ∷ drop (at + 1) text)) (sym front_is) ∙ ap (λ (t : List ℕ). front ++ (49 ∷ t)) (sym behind_is) in
    ap split_at_last whole ∙ split_at front behind (ap split_at_last behind_is ∙ none)

-- ---- a text and how it is read

pub read_text-split : (text front behind : List ℕ) → split_at_last text ≡ Some (front, behind) → read_text text ≡ front ++ (49 ∷ read_data behind)
read_text-split text front behind e = ap (with_data_read text) e

pub read_text-none : (text : List ℕ) → split_at_last text ≡ None → read_text text ≡ text
read_text-none text e = ap (with_data_read text) e

pub parts-from : (text hrp damaged : List ℕ) → text ≡ hrp ++ (49 ∷ damaged) → IsText (read_text text) hrp (read_data damaged) → AreParts text hrp damaged
parts-from text hrp damaged e is = record {
  split = e;
  cut = ap split_at_last e ∙ split_at hrp damaged (read_none damaged (split_at_last-data (read_data damaged) is.data_bytes));
  grammar = is;
}

pub one_split : (text h d k e : List ℕ) → split_at_last text ≡ Some (h, d) → split_at_last text ≡ Some (k, e) → (h ≡ k) × (d ≡ e)
one_split text h d k e s t = some_pair_parts h k d e (sym s ∙ t)
