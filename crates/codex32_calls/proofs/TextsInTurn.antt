-- Texts one behind another, and their shares.
use Rattle.std.specs.List.{sum}
use Rattle.std.proofs.Common.{◌≡◌, ◌+◌, ◌≤◌, ◌<◌, ℕ, zero, suc, List, [], ◌∷◌, ◌++◌, length, take, drop, get_or, inl, inr, refl, sym, ap, subst, ◌∙◌, arith}
use Rattle.std.proofs.Math.Seq.{drop-cons}
use Rattle.std.proofs.lemmas.List.{append-nil}
use Rattle.std.proofs.lemmas.List.Sums.{sum_by-cons}
use Rattle.codex32.specs.Share.{AreSharesOf, IsEither, IsShareOf, identifier_of_share, index_of_share, payload_of_share, threshold_of_share}
use Rattle.codex32.specs.declared.share.Share.{Share}
use Rattle.codex32_calls.specs.Derive.{IsAsked, IsDeriveFault, IsTextsFault, texts_of}
use Rattle.codex32_calls.specs.Share.{IsEitherFault}
use Rattle.codex32_calls.specs.declared.refusal.Refusal.{Refusal}
use Rattle.codex32_calls.specs.declared.refusal.Refusal.TheVariants as refusals

-- ---- sums

pub sum-cons : (n : ℕ) (ns : List ℕ) → sum (n ∷ ns) ≡ n + sum ns
sum-cons n ns = sum_by-cons (λ (x : ℕ). x) n ns

-- ---- texts

pub length-texts : (texts ns : List ℕ) → length (texts_of texts ns) ≡ length ns
length-texts texts [] = refl
length-texts texts (n ∷ ns) = ap suc (length-texts (drop n texts) ns)

-- the next text, and those behind it
pub texts-next : (all : List (List ℕ)) (rest ns : List ℕ) (i d : ℕ) → i < length ns → drop i all ≡ texts_of rest (drop i ns)
    → drop i all ≡ take (get_or ns i d) rest ∷ texts_of (drop (get_or ns i d) rest) (drop (suc i) ns)
texts-next all rest ns i d h e = e ∙ ap (texts_of rest) (drop-cons ns i d h)

pub tail_at : {A : Type 0} (i : ℕ) (all : List A) (t : A) (ts : List A) → drop i all ≡ t ∷ ts → drop (suc i) all ≡ ts
tail_at zero [] t ts e = absurd cc
tail_at zero (u ∷ us) t ts e = cc
tail_at (suc i) [] t ts e = absurd cc
tail_at (suc i) (u ∷ us) t ts e = tail_at i us t ts e

pub front_at : {A : Type 0} (i : ℕ) (all : List A) (t : A) (ts : List A) → drop i all ≡ t ∷ ts → take (suc i) all ≡ take i all ++ (t ∷ [])
front_at zero [] t ts e = absurd cc
front_at zero (u ∷ us) t ts e = let h : u ≡ t = cc in ap (λ v. v ∷ []) h
front_at (suc i) [] t ts e = absurd cc
front_at (suc i) (u ∷ us) t ts e = ap (λ v. u ∷ v) (front_at i us t ts e)

-- ---- shares

pub either-from_share : (t : List ℕ) (s : Share) → IsShareOf t s → IsEither t
either-from_share t s is = (threshold_of_share s, identifier_of_share s, index_of_share s, payload_of_share s, is.is_string)

pub shares-more : (ts : List (List ℕ)) (ss : List Share) (t : List ℕ) (s : Share) → AreSharesOf ts ss → IsShareOf t s → AreSharesOf (ts ++ (t ∷ [])) (ss ++ (s ∷ []))
shares-more [] [] t s h is = (is, tt)
shares-more [] (r ∷ rs) t s h is = absurd h
shares-more (u ∷ us) [] t s h is = absurd h
shares-more (u ∷ us) (r ∷ rs) t s h is = (h.0, shares-more us rs t s h.1 is)

pub fault-at : (i : ℕ) (all : List (List ℕ)) (ss : List Share) (t : List ℕ) (ts : List (List ℕ)) (e : Refusal) → AreSharesOf (take i all) ss → drop i all ≡ t ∷ ts
    → IsEitherFault t e → IsTextsFault all e
fault-at zero [] ss t ts e h eq f = absurd cc
fault-at zero (u ∷ us) ss t ts e h eq f = let same : t ≡ u = cc in inl (subst (λ (v : List ℕ). IsEitherFault v e) same f)
fault-at (suc i) [] ss t ts e h eq f = absurd cc
fault-at (suc i) (u ∷ us) [] t ts e h eq f = absurd h
fault-at (suc i) (u ∷ us) (s ∷ ss) t ts e h eq f = inr (either-from_share u s h.0, fault-at i us ss t ts e h.1 eq f)

pub fault-first : (texts ns : List ℕ) (n : ℕ) (e : Refusal) → 1 ≤ length ns → n ≡ get_or ns 0 n → IsEitherFault (take n texts) e → IsTextsFault (texts_of texts ns) e
fault-first texts [] n e some is f = absurd (omega (arith, some))
fault-first texts (m ∷ ns) n e some is f = inl (subst (λ (k : ℕ). IsEitherFault (take k texts) e) is f)

-- the first is a string, and a fault is in what stands behind it, which has the other lengths
pub fault-behind : (texts behind ns rest : List ℕ) (n : ℕ) (s : Share) (e : Refusal) → 1 ≤ length ns → n ≡ get_or ns 0 n → behind ≡ drop n texts → rest ≡ drop 1 ns
    → IsShareOf (take n texts) s → IsTextsFault (texts_of behind rest) e → IsTextsFault (texts_of texts ns) e
fault-behind texts behind [] rest n s e some is at tail of f = absurd (omega (arith, some))
fault-behind texts behind (m ∷ ns) rest n s e some is at tail of f = inr (
  either-from_share (take m texts) s (subst (λ (k : ℕ). IsShareOf (take k texts) s) is of),
  subst (λ (k : ℕ). IsTextsFault (texts_of (drop k texts) ns) e) is
      (subst (λ (u : List ℕ). IsTextsFault (texts_of u ns) e) at (subst (λ (u : List ℕ). IsTextsFault (texts_of behind u) e) tail f)),
)

-- the share of the first, and those of the others
pub shares-first : (texts behind ns rest : List ℕ) (n : ℕ) (s : Share) (room : List Share) → 1 ≤ length ns → n ≡ get_or ns 0 n → behind ≡ drop n texts → rest ≡ drop 1 ns
    → IsShareOf (take n texts) s → AreSharesOf (texts_of behind rest) (take (length rest) room) → AreSharesOf (texts_of texts ns) (take (length ns) (s ∷ (room ++ [])))
shares-first texts behind [] rest n s room some is at tail of are = absurd (omega (arith, some))
shares-first texts behind (m ∷ ns) rest n s room some is at tail of are = (
  subst (λ (k : ℕ). IsShareOf (take k texts) s) is of,
  subst (λ (ss : List Share). AreSharesOf (texts_of (drop m texts) ns) (take (length ns) ss)) (sym (append-nil room))
      (subst (λ (k : ℕ). AreSharesOf (texts_of (drop k texts) ns) (take (length ns) room)) is
      (subst (λ (u : List ℕ). AreSharesOf (texts_of u ns) (take (length ns) room)) at (subst (λ (u : List ℕ). AreSharesOf (texts_of behind u) (take (length u) room)) tail are))),
)

-- what stands behind the first has the other lengths
pub whole-behind : (texts ns rest : List ℕ) (n : ℕ) → 1 ≤ length ns → n ≡ get_or ns 0 n → rest ≡ drop 1 ns → sum ns ≡ length texts → n + sum rest ≡ length texts
whole-behind texts [] rest n some is tail whole = absurd (omega (arith, some))
whole-behind texts (m ∷ ns) rest n some is tail whole =
    let same : n ≡ m = is in
    let others : sum rest ≡ sum ns = ap sum tail in
    omega (arith, same, others, sum-cons m ns, whole)

-- of texts there are no other refusals
pub never : (e : Refusal) → ((t : List ℕ) → IsEitherFault t e → ⊥) → (ts : List (List ℕ)) → IsTextsFault ts e → ⊥
never e nowhere [] h = h
never e nowhere (t ∷ ts) (inl f) = nowhere t f
never e nowhere (t ∷ ts) (inr more) = never e nowhere ts more.1

pub refused-from_texts : (x : ℕ) (texts lengths : List ℕ) (left : ℕ) (e : Refusal) → IsAsked x texts lengths → IsTextsFault (texts_of texts lengths) e
    → IsDeriveFault x texts lengths left e
refused-from_texts x texts lengths left refusals.NotUtf8 asked h = (asked, h)
refused-from_texts x texts lengths left refusals.BadLengths asked h = absurd (never refusals.BadLengths (λ t f. f) (texts_of texts lengths) h)
refused-from_texts x texts lengths left refusals.InvalidCharacter asked h = (asked, h)
refused-from_texts x texts lengths left refusals.MixedCase asked h = (asked, h)
refused-from_texts x texts lengths left (refusals.Text e) asked h = (asked, h)
refused-from_texts x texts lengths left (refusals.Header e) asked h = absurd (never (refusals.Header e) (λ t f. f) (texts_of texts lengths) h)
refused-from_texts x texts lengths left (refusals.Payload e) asked h = (asked, h)
refused-from_texts x texts lengths left (refusals.Encode e) asked h = (asked, h)
refused-from_texts x texts lengths left (refusals.Derive e) asked h = absurd (never (refusals.Derive e) (λ t f. f) (texts_of texts lengths) h)
refused-from_texts x texts lengths left (refusals.Split e) asked h = (asked, h)
refused-from_texts x texts lengths left refusals.NoNearest asked h = (asked, h)
refused-from_texts x texts lengths left refusals.NoRoom asked h = absurd (never refusals.NoRoom (λ t f. f) (texts_of texts lengths) h)
