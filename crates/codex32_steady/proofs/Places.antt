-- The places up to which a text is of the alphabet from its end, and graphic from its front, as one walk counts them.
use Rattle.std.specs.Int.{from_bool}
use Rattle.std.specs.List.{list_all}
use Rattle.std.proofs.Common.{◌≡◌, ℕ, ◌+◌, ◌-◌, ◌<◌, ◌≤◌, ◌&&◌, ◌||◌, Bool, true, false, not, List, length, take, drop, get_or, refl, sym, ap, subst, ◌∙◌, arith}
use Rattle.std.proofs.lemmas.Bool.{and_from}
use Rattle.std.proofs.lemmas.List.{drop_all, drop_more}
use Rattle.std.proofs.lemmas.List.Folds.{list_all_more}
use Rattle.bech32_gf.specs.Alphabet.{is_data, is_of_alphabet}
use Rattle.bech32_hrp.specs.Hrp.{is_graphic}

pub from_bool-le : (b : Bool) → from_bool b ≤ 1
from_bool-le true = omega arith
from_bool-le false = omega arith

-- ---- from the end

-- behind the last byte that is not of the alphabet
pub record IsBehindLast (bytes : List ℕ) (n : ℕ) : Type 0 where
  pub some : 0 < n
  pub within : n ≤ length bytes
  pub behind : is_data (drop n bytes) ≡ true
  pub stranger : is_of_alphabet (get_or bytes (n - 1) 0) ≡ false

-- what is known once the bytes from a place on were looked at
pub record IsSeen (bytes : List ℕ) (from : ℕ) (found : Bool) (start : ℕ) : Type 0 where
  pub few : from + start ≤ length bytes
  pub none : found ≡ false → (start ≡ 0) × (is_data (drop from bytes) ≡ true)
  pub some : found ≡ true → IsBehindLast bytes (from + start)

pub seen_none : (bytes : List ℕ) (from : ℕ) → from ≡ length bytes → IsSeen bytes from false 0
seen_none bytes from e = record {
  few = omega (arith, e);
  none = λ _. (refl, ap is_data (drop_all from bytes (omega (arith, e))));
  some = λ t. absurd (cc);
}

data_more : (bytes : List ℕ) (from : ℕ) → from < length bytes → is_of_alphabet (get_or bytes from 0) ≡ true → is_data (drop (from + 1) bytes) ≡ true → is_data (drop from bytes) ≡ true
data_more bytes from l of h = ap is_data (drop_more bytes from 0 l) ∙ and_from (is_of_alphabet (get_or bytes from 0)) (is_data (drop (from + 1) bytes)) of h

-- one more, before those
pub seen_more : (bytes : List ℕ) (from start : ℕ) (found of : Bool) → from < length bytes → of ≡ is_of_alphabet (get_or bytes from 0) → IsSeen bytes (from + 1) found start
    → IsSeen bytes from (found || not of) (start + from_bool (found || not of))
seen_more bytes from start true of l is h = record {
  few = omega (arith, h.few);
  none = λ t. absurd (cc);
  some = λ _. subst (IsBehindLast bytes) (omega arith) (h.some refl);
}
seen_more bytes from start false true l is h =
    let (zero, behind) = h.none refl in
    record {
      few = omega (arith, h.few);
      none = λ _. (omega (arith, zero), data_more bytes from l (sym is) behind);
      some = λ t. absurd (cc);
    }
seen_more bytes from start false false l is h =
    let (zero, behind) = h.none refl in
    let at : from + 1 ≡ from + (start + 1) = omega (arith, zero) in
    let before : from + 1 - 1 ≡ from = omega arith in
    record {
      few = omega (arith, h.few);
      none = λ t. absurd (cc);
      some = λ _. subst (IsBehindLast bytes) at record {
        some = omega arith;
        within = omega (arith, l);
        behind = behind;
        stranger = ap (λ (n : ℕ). is_of_alphabet (get_or bytes n 0)) before ∙ sym is;
      };
    }

-- all were looked at
pub seen_all : (bytes : List ℕ) (start : ℕ) (found : Bool) → IsSeen bytes 0 found start
    → (is_data (drop start bytes) ≡ true) × (0 < start → is_of_alphabet (get_or bytes (start - 1) 0) ≡ false)
seen_all bytes start true h =
    let is : IsBehindLast bytes start = subst (IsBehindLast bytes) (omega arith) (h.some refl) in
    (is.behind, λ _. is.stranger)
seen_all bytes start false h =
    let (zero, all) = h.none refl in
    (ap (λ (n : ℕ). is_data (drop n bytes)) zero ∙ all, λ l. absurd (omega (arith, zero, l)))

-- ---- from the front

-- what is known once so many were looked at
pub record IsRead (bytes : List ℕ) (i : ℕ) (graphic : Bool) (count : ℕ) : Type 0 where
  pub few : count ≤ i
  pub front : list_all is_graphic (take count bytes) ≡ true
  pub all : graphic ≡ true → count ≡ i
  pub cut : graphic ≡ false → (count < i) × (is_graphic (get_or bytes count 0) ≡ false)

-- one more, behind those
pub read_more : (bytes : List ℕ) (i count : ℕ) (graphic of : Bool) → i < length bytes → of ≡ is_graphic (get_or bytes i 0) → IsRead bytes i graphic count
    → IsRead bytes (i + 1) (graphic && of) (count + from_bool (graphic && of))
read_more bytes i count false of l is h =
    let (less, stranger) = h.cut refl in
    let same : count ≡ count + 0 = omega arith in
    record {
      few = omega (arith, h.few);
      front = ap (λ (n : ℕ). list_all is_graphic (take n bytes)) (sym same) ∙ h.front;
      all = λ t. absurd (cc);
      cut = λ _. (omega (arith, less), ap (λ (n : ℕ). is_graphic (get_or bytes n 0)) (sym same) ∙ stranger);
    }
read_more bytes i count true true l is h =
    let at : count ≡ i = h.all refl in
    record {
      few = omega (arith, at);
      front =
          ap (λ (n : ℕ). list_all is_graphic (take (n + 1) bytes)) at
          ∙ list_all_more is_graphic bytes i 0 l
          ∙ and_from (list_all is_graphic (take i bytes)) (is_graphic (get_or bytes i 0)) (ap (λ (n : ℕ). list_all is_graphic (take n bytes)) (sym at) ∙ h.front) (sym is);
      all = λ _. omega (arith, at);
      cut = λ t. absurd (cc);
    }
read_more bytes i count true false l is h =
    let at : count + 0 ≡ i = omega (arith, h.all refl) in
    let same : count + 0 ≡ count = omega arith in
    record {
      few = omega (arith, at);
      front = ap (λ (n : ℕ). list_all is_graphic (take n bytes)) same ∙ h.front;
      all = λ t. absurd (cc);
      cut = λ _. (omega (arith, at), ap (λ (n : ℕ). is_graphic (get_or bytes n 0)) at ∙ sym is);
    }

-- all were looked at
pub read_all : (bytes : List ℕ) (i count : ℕ) (graphic : Bool) → length bytes ≤ i → IsRead bytes i graphic count → count < length bytes → is_graphic (get_or bytes count 0) ≡ false
read_all bytes i count true l h less = absurd (omega (arith, l, h.all refl, less))
read_all bytes i count false l h less = (h.cut refl).1
