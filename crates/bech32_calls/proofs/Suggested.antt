-- Suggestions put into buffers, and why none are.
use Rattle.std.specs.Prelude.{map, false, true, None, Some, Result, Ok, Err, IfErr, MatchResult}
use Rattle.std.proofs.Common.{◌≡◌, ◌<◌, ◌≤◌, ℕ, List, length, take, inl, inr, subst, sym, refl, ◌∙◌, arith}
use Rattle.std.proofs.lemmas.List.{length-map, take_all}
use Rattle.bech32_decode.specs.Text.{text_refusal}
use Rattle.bech32_decode.proofs.Grammar.{text_refusal-none}
use Rattle.bech32_hrp.specs.Hrp.{IsHrp}
use Rattle.bech32_suggest.specs.Suggestions.{AreSuggestions, IsTriedText, Suggested}
use Rattle.bech32_suggest.specs.Typed.{as_read, max_typed_length}
use Rattle.bech32_suggest.specs.declared.mendings.Mending.{Mending}
use Rattle.bech32_suggest.proofs.Reading.{utf8_read}
use Rattle.bech32_calls.specs.Listing.{EndsWell, IfAllPut, IfNotAllPut, LacksMemory, ListsRows}
use Rattle.bech32_calls.specs.Suggest.{IsSuggestFault, IsTyped, IsTypedFault, LacksRoomForSuggestions, PutsFirstSuggestions, PutsSuggested, PutsSuggestions, number_of_mending}
use Rattle.bech32_calls.specs.declared.listed.Listed.{Listed}
use Rattle.bech32_calls.specs.declared.refusal.Refusal.{Refusal}
use Rattle.bech32_calls.specs.declared.refusal.Refusal.TheVariants.{Memory, NotUtf8, Text}
use Rattle.bech32_calls.proofs.Fitting.{are_all, are_few, rows_lack, rows_mapped, rows_most}
use Rattle.bech32_calls.proofs.Letters.{no_part_fault}

-- ---- where none are put

-- a text that is read is refused for no fault
no_fault : (text : List ℕ) → IsTyped text → length text ≤ max_typed_length → text_refusal (as_read text) ≡ None
no_fault text (u, inl long) short = absurd (omega (arith, long, short))
no_fault text (u, inr is) short = text_refusal-none (as_read text) (utf8_read text u) is

-- of such a text only memory may not suffice
typed_memory : (text : List ℕ) (e : Refusal) → IsTyped text → IsTypedFault text e → e ≡ Memory
typed_memory text NotUtf8 is h = absurd (h is.0)
typed_memory text (Text e) is h =
    let none : text_refusal (as_read text) ≡ None = no_fault text is h.1 in
    let some : text_refusal (as_read text) ≡ Some e = h.2 in
    absurd (cc)
typed_memory text Memory is h = refl
typed_memory text _ is h = absurd h

-- where both texts are read, only memory may not suffice
pub only_memory : (text hrp : List ℕ) (e : Refusal) → IsHrp hrp → IsTyped text → IsSuggestFault text hrp e → e ≡ Memory
only_memory text hrp e is typed (inl h) = absurd (no_part_fault hrp e is h)
only_memory text hrp e is typed (inr h) = typed_memory text e typed h.1

-- ---- where some do not fit

lacks_room : (text hrp kinds kinds' places places' texts texts' : List ℕ) (count : ℕ) → PutsFirstSuggestions text hrp kinds kinds' places places' texts texts' count
    → LacksRoomForSuggestions text hrp (length kinds) (length places) (length texts) count
lacks_room text hrp kinds kinds' places places' texts texts' count h = record {
  found = h.found;
  are = h.are;
  count_is = h.count_is;
  lacks = rows_lack (λ s. s.0) h.found (length kinds) (length places) (length texts) h.put_count count h.lacks h.count_is (h.most.full h.lacks);
}

pub lacks_listed : (text hrp kinds kinds' places places' texts texts' : List ℕ) (r : Result Listed Refusal)
    → IfNotAllPut r (PutsFirstSuggestions text hrp kinds kinds' places places' texts texts')
    → IfNotAllPut r (LacksRoomForSuggestions text hrp (length kinds) (length places) (length texts))
lacks_listed text hrp kinds kinds' places places' texts texts' (Ok listed) h = λ part. lacks_room text hrp kinds kinds' places places' texts texts' listed.count (h part)
lacks_listed text hrp kinds kinds' places places' texts texts' (Err e) h = tt

-- ---- what was found, listed

module _ (text hrp kinds kinds' places places' texts texts' : List ℕ) (is_hrp : IsHrp hrp) (r : Result Listed Refusal) where
  module _ {A : Type 0} (shown : A → List ℕ) (mending : A → Mending) (place : A → ℕ) (items : List A) (are : AreSuggestions text hrp (map (λ s. (shown s, (mending s, place s))) items)) where
    abbrev told : List Suggested
    told = map (λ s. (shown s, (mending s, place s))) items

    length_told : length told ≡ length items
    length_told = length-map {B = Suggested} items (λ s. (shown s, (mending s, place s)))

    abbrev Lists : Listed → Type 0
    Lists = ListsRows (λ s. number_of_mending (mending s)) place shown items kinds kinds' places places' texts texts'

    puts_told : (listed : Listed) (h : Lists listed) → PutsSuggested (take h.put_count told) kinds kinds' places places' texts texts'
    puts_told listed h =
        rows_mapped (λ s. (shown s, (mending s, place s))) (λ s. number_of_mending s.1.0) (λ s. s.1.1) (λ s. s.0) items kinds kinds' places places' texts texts' h.put_count h.put

    puts_all : (listed : Listed) → Lists listed → listed.fit ≡ true → PutsSuggestions text hrp kinds kinds' places places' texts texts' listed.count
    puts_all listed h all =
        let whole : h.put_count ≡ length items = are_all h.put_count (length items) (sym h.fit_is ∙ all) in
        record {
          is_hrp = is_hrp;
          found = told;
          are = are;
          count_is = h.count_is ∙ sym length_told;
          put = subst (λ l. PutsSuggested l kinds kinds' places places' texts texts') (take_all h.put_count told (omega (arith, whole, length_told))) (puts_told listed h);
        }

    puts_first : (listed : Listed) → Lists listed → listed.fit ≡ false → PutsFirstSuggestions text hrp kinds kinds' places places' texts texts' listed.count
    puts_first listed h part =
        let less : h.put_count < length items = are_few h.put_count (length items) h.most.within (sym h.fit_is ∙ part) in
        record {
          is_hrp = is_hrp;
          found = told;
          are = are;
          count_is = h.count_is ∙ sym length_told;
          put_count = h.put_count;
          lacks = omega (arith, less, length_told);
          most = rows_most (λ s. (shown s, (mending s, place s))) (λ s. number_of_mending s.1.0) (λ s. s.1.1) (λ s. s.0) items (length kinds) (length places) (length texts) h.put_count h.most;
          put = puts_told listed h;
        }

  module _ {V A E : Type 0} where
    abbrev Found : Result V E → (V → List A) → (A → List ℕ) → (A → Mending) → (A → ℕ) → Type 0
    Found found items shown mending place =
        MatchResult found (λ v. AreSuggestions text hrp (map (λ s. (shown s, (mending s, place s))) (items v))) (λ _. IsTriedText text)

    abbrev Lists_found : Result V E → (V → List A) → (A → List ℕ) → (A → Mending) → (A → ℕ) → Type 0
    Lists_found found items shown mending place =
        MatchResult found (λ v. EndsWell r (ListsRows (λ s. number_of_mending (mending s)) place shown (items v) kinds kinds' places places' texts texts'))
        (λ _. LacksMemory r × ((kinds' ≡ kinds) × (places' ≡ places) × (texts' ≡ texts)))

    pub suggested_all : (found : Result V E) (items : V → List A) (shown : A → List ℕ) (mending : A → Mending) (place : A → ℕ)
        → Found found items shown mending place → Lists_found found items shown mending place → IfAllPut r (PutsSuggestions text hrp kinds kinds' places places' texts texts')
    suggested_all (Ok v) items shown mending place are (listed, is, h) =
        subst (λ (t : Result Listed Refusal). IfAllPut t (PutsSuggestions text hrp kinds kinds' places places' texts texts')) (sym is) (puts_all shown mending place (items v) are listed h)
    suggested_all (Err e) items shown mending place refused h =
        subst (λ (t : Result Listed Refusal). IfAllPut t (PutsSuggestions text hrp kinds kinds' places places' texts texts')) (sym h.0) tt

    pub suggested_first : (found : Result V E) (items : V → List A) (shown : A → List ℕ) (mending : A → Mending) (place : A → ℕ)
        → Found found items shown mending place → Lists_found found items shown mending place → IfNotAllPut r (PutsFirstSuggestions text hrp kinds kinds' places places' texts texts')
    suggested_first (Ok v) items shown mending place are (listed, is, h) =
        subst (λ (t : Result Listed Refusal). IfNotAllPut t (PutsFirstSuggestions text hrp kinds kinds' places places' texts texts')) (sym is) (puts_first shown mending place (items v) are listed h)
    suggested_first (Err e) items shown mending place refused h =
        subst (λ (t : Result Listed Refusal). IfNotAllPut t (PutsFirstSuggestions text hrp kinds kinds' places places' texts texts')) (sym h.0) tt

    -- only memory may not suffice, and then nothing is put
    pub suggested_refused : (found : Result V E) (items : V → List A) (shown : A → List ℕ) (mending : A → Mending) (place : A → ℕ)
        → Found found items shown mending place → Lists_found found items shown mending place
        → IfErr r (λ e. (e ≡ Memory) × IsTypedFault text e × ((kinds' ≡ kinds) × (places' ≡ places) × (texts' ≡ texts)))
    suggested_refused (Ok v) items shown mending place are (listed, is, h) =
        subst (λ (t : Result Listed Refusal). IfErr t (λ e. (e ≡ Memory) × IsTypedFault text e × ((kinds' ≡ kinds) × (places' ≡ places) × (texts' ≡ texts)))) (sym is) tt
    suggested_refused (Err e) items shown mending place refused h =
        subst (λ (t : Result Listed Refusal). IfErr t (λ e. (e ≡ Memory) × IsTypedFault text e × ((kinds' ≡ kinds) × (places' ≡ places) × (texts' ≡ texts)))) (sym h.0)
        (refl, refused, h.1)
