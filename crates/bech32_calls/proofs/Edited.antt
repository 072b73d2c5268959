-- Edits and the texts that they make put into buffers.
use Rattle.std.specs.Prelude.{map, false, true, None, Some, Result, Ok, Err, IfErr, MatchResult}
use Rattle.std.proofs.Common.{◌≡◌, ◌<◌, ℕ, List, length, take, subst, sym, refl, ◌∙◌, arith}
use Rattle.std.proofs.lemmas.List.{length-map, take_all}
use Rattle.bech32_checksum.specs.Code.{Code}
use Rattle.bech32_decode.specs.Text.{IsInGrammar, text_refusal}
use Rattle.bech32_decode.proofs.Grammar.{text_refusal-none}
use Rattle.bech32_near.specs.edits.NearEdits.{AreNearEdits, HasNearEdit}
use Rattle.bech32_near.specs.declared.edits.edit.Edit.{Edit}
use Rattle.bech32_calls.specs.Checksums.{ForChecksum, IsFaultBy}
use Rattle.bech32_calls.specs.Faults.{IsTextFault}
use Rattle.bech32_calls.specs.Listing.{EndsWell, IfAllPut, IfNotAllPut, LacksMemory, ListsRows}
use Rattle.bech32_calls.specs.NearEdits.{IsEditsFault, LacksRoomForEdits, PutsEach, PutsEdits, PutsFirstEdits, number_of_change}
use Rattle.bech32_calls.specs.declared.listed.Listed.{Listed}
use Rattle.bech32_calls.specs.declared.refusal.Refusal.{Refusal}
use Rattle.bech32_calls.specs.declared.refusal.Refusal.TheVariants.{Memory, NotUtf8, Text}
use Rattle.bech32_calls.proofs.ByNumber.{from_both, more_for, wrong_by}
use Rattle.bech32_calls.proofs.Fitting.{are_all, are_few, rows_lack, rows_mapped, rows_most}
use Rattle.bech32_calls.proofs.Letters.{IsUtf8-from_text}

-- ---- where none are put

-- nothing is put of a text that is not read
unread : (text : List ℕ) (e : Refusal) (code : Code) → IsTextFault text e → IsEditsFault text code e
unread text NotUtf8 code h = h
unread text (Text e) code h = h
unread text _ code h = absurd h

-- the same by the checksum of a number
pub unread_by : (n : ℕ) (text : List ℕ) (e : Refusal) → ForChecksum n (λ _. Unit {0}) → IsTextFault text e → IsFaultBy n (IsEditsFault text) e
unread_by n text e is h = wrong_by (λ _. Unit {0}) (IsEditsFault text) e (λ code _. unread text e code h) n is

-- the edits of a text that was read are not told: there is one, and no memory
untold_by : (n : ℕ) (text : List ℕ) → ForChecksum n (λ code. HasNearEdit code text) → IsFaultBy n (IsEditsFault text) Memory
untold_by n text = wrong_by (λ code. HasNearEdit code text) (IsEditsFault text) Memory (λ code h. h) n

-- of a text in the grammar only memory may not suffice
grammar_memory : (text : List ℕ) (e : Refusal) (code : Code) → IsInGrammar text → IsEditsFault text code e → e ≡ Memory
grammar_memory text NotUtf8 code is h = absurd (h (IsUtf8-from_text text is.0 is.1 is.2))
grammar_memory text (Text e) code is h =
    let none : text_refusal text ≡ None = text_refusal-none text h.0 is in
    let some : text_refusal text ≡ Some e = h.1 in
    absurd (cc)
grammar_memory text Memory code is h = refl
grammar_memory text _ code is h = absurd h

module _ (n : ℕ) (text : List ℕ) (is : ForChecksum n (λ _. IsInGrammar text)) where
  -- the same by the checksum of a number
  pub grammar_memory_by : (e : Refusal) → IsFaultBy n (IsEditsFault text) e → e ≡ Memory
  grammar_memory_by e = from_both (λ _. IsInGrammar text) (IsEditsFault text) e (e ≡ Memory) (grammar_memory text e) n is

-- ---- where some do not fit

lacks_room : (text kinds kinds' locations locations' texts texts' : List ℕ) (count : ℕ) (code : Code) → PutsFirstEdits text kinds kinds' locations locations' texts texts' count code
    → LacksRoomForEdits text (length kinds) (length locations) (length texts) count code
lacks_room text kinds kinds' locations locations' texts texts' count code h = record {
  found = h.found;
  near = h.near;
  count_is = h.count_is;
  lacks = rows_lack (λ m. m.1) h.found (length kinds) (length locations) (length texts) h.put_count count h.lacks h.count_is (h.most.full h.lacks);
}

pub lacks_listed : (n : ℕ) (text kinds kinds' locations locations' texts texts' : List ℕ) (r : Result Listed Refusal)
    → IfNotAllPut r (λ count. ForChecksum n (PutsFirstEdits text kinds kinds' locations locations' texts texts' count))
    → IfNotAllPut r (λ count. ForChecksum n (LacksRoomForEdits text (length kinds) (length locations) (length texts) count))
lacks_listed n text kinds kinds' locations locations' texts texts' (Ok listed) h = λ part.
    more_for (PutsFirstEdits text kinds kinds' locations locations' texts texts' listed.count) (LacksRoomForEdits text (length kinds) (length locations) (length texts) listed.count)
    (lacks_room text kinds kinds' locations locations' texts texts' listed.count) n (h part)
lacks_listed n text kinds kinds' locations locations' texts texts' (Err e) h = tt

-- ---- what was found, listed by the checksum of a number

module _ (n : ℕ) (text kinds kinds' locations locations' texts texts' : List ℕ) (grammar : IsInGrammar text) (r : Result Listed Refusal) where
  module _ {A : Type 0} (edit : A → Edit) (made : A → List ℕ) (items : List A) (are : ForChecksum n (λ code. AreNearEdits code text (map (λ m. (edit m, made m)) items))) where
    abbrev told : List (Edit × List ℕ)
    told = map (λ m. (edit m, made m)) items

    length_told : length told ≡ length items
    length_told = length-map {B = Edit × List ℕ} items (λ m. (edit m, made m))

    abbrev Lists : Listed → Type 0
    Lists = ListsRows (λ m. number_of_change (edit m).change) (λ m. (edit m).location) made items kinds kinds' locations locations' texts texts'

    puts_told : (listed : Listed) (h : Lists listed) → PutsEach (take h.put_count told) kinds kinds' locations locations' texts texts'
    puts_told listed h =
        rows_mapped (λ m. (edit m, made m)) (λ m. number_of_change m.0.change) (λ m. m.0.location) (λ m. m.1) items kinds kinds' locations locations' texts texts' h.put_count h.put

    puts_all : (listed : Listed) → Lists listed → listed.fit ≡ true → ForChecksum n (PutsEdits text kinds kinds' locations locations' texts texts' listed.count)
    puts_all listed h all =
        let whole : h.put_count ≡ length items = are_all h.put_count (length items) (sym h.fit_is ∙ all) in
        more_for (λ code. AreNearEdits code text told) (PutsEdits text kinds kinds' locations locations' texts texts' listed.count)
        (λ code near. record {
          grammar = grammar;
          found = told;
          near = near;
          count_is = h.count_is ∙ sym length_told;
          put = subst (λ l. PutsEach l kinds kinds' locations locations' texts texts') (take_all h.put_count told (omega (arith, whole, length_told))) (puts_told listed h);
        })
        n are

    puts_first : (listed : Listed) → Lists listed → listed.fit ≡ false → ForChecksum n (PutsFirstEdits text kinds kinds' locations locations' texts texts' listed.count)
    puts_first listed h part =
        let less : h.put_count < length items = are_few h.put_count (length items) h.most.within (sym h.fit_is ∙ part) in
        more_for (λ code. AreNearEdits code text told) (PutsFirstEdits text kinds kinds' locations locations' texts texts' listed.count)
        (λ code near. record {
          grammar = grammar;
          found = told;
          near = near;
          count_is = h.count_is ∙ sym length_told;
          put_count = h.put_count;
          lacks = omega (arith, less, length_told);
          most = rows_most (λ m. (edit m, made m)) (λ m. number_of_change m.0.change) (λ m. m.0.location) (λ m. m.1) items (length kinds) (length locations) (length texts) h.put_count h.most;
          put = puts_told listed h;
        })
        n are

  module _ {V A E : Type 0} where
    abbrev Found : Result V E → (V → List A) → (A → Edit) → (A → List ℕ) → Type 0
    Found found items edit made =
        MatchResult found (λ v. ForChecksum n (λ code. AreNearEdits code text (map (λ m. (edit m, made m)) (items v)))) (λ _. ForChecksum n (λ code. HasNearEdit code text))

    abbrev Lists_found : Result V E → (V → List A) → (A → Edit) → (A → List ℕ) → Type 0
    Lists_found found items edit made =
        MatchResult found (λ v. EndsWell r (ListsRows (λ m. number_of_change (edit m).change) (λ m. (edit m).location) made (items v) kinds kinds' locations locations' texts texts'))
        (λ _. LacksMemory r × ((kinds' ≡ kinds) × (locations' ≡ locations) × (texts' ≡ texts)))

    pub edits_all : (found : Result V E) (items : V → List A) (edit : A → Edit) (made : A → List ℕ) → Found found items edit made → Lists_found found items edit made
        → IfAllPut r (λ count. ForChecksum n (PutsEdits text kinds kinds' locations locations' texts texts' count))
    edits_all (Ok v) items edit made are (listed, is, h) =
        subst (λ (t : Result Listed Refusal). IfAllPut t (λ count. ForChecksum n (PutsEdits text kinds kinds' locations locations' texts texts' count))) (sym is)
        (puts_all edit made (items v) are listed h)
    edits_all (Err e) items edit made refused h =
        subst (λ (t : Result Listed Refusal). IfAllPut t (λ count. ForChecksum n (PutsEdits text kinds kinds' locations locations' texts texts' count))) (sym h.0) tt

    pub edits_first : (found : Result V E) (items : V → List A) (edit : A → Edit) (made : A → List ℕ) → Found found items edit made → Lists_found found items edit made
        → IfNotAllPut r (λ count. ForChecksum n (PutsFirstEdits text kinds kinds' locations locations' texts texts' count))
    edits_first (Ok v) items edit made are (listed, is, h) =
        subst (λ (t : Result Listed Refusal). IfNotAllPut t (λ count. ForChecksum n (PutsFirstEdits text kinds kinds' locations locations' texts texts' count))) (sym is)
        (puts_first edit made (items v) are listed h)
    edits_first (Err e) items edit made refused h =
        subst (λ (t : Result Listed Refusal). IfNotAllPut t (λ count. ForChecksum n (PutsFirstEdits text kinds kinds' locations locations' texts texts' count))) (sym h.0) tt

    -- only memory may not suffice, and then nothing is put
    pub edits_refused : (found : Result V E) (items : V → List A) (edit : A → Edit) (made : A → List ℕ) → Found found items edit made → Lists_found found items edit made
        → IfErr r (λ e. (e ≡ Memory) × IsFaultBy n (IsEditsFault text) e × ((kinds' ≡ kinds) × (locations' ≡ locations) × (texts' ≡ texts)))
    edits_refused (Ok v) items edit made are (listed, is, h) =
        subst (λ (t : Result Listed Refusal). IfErr t (λ e. (e ≡ Memory) × IsFaultBy n (IsEditsFault text) e × ((kinds' ≡ kinds) × (locations' ≡ locations) × (texts' ≡ texts)))) (sym is) tt
    edits_refused (Err e) items edit made refused h =
        subst (λ (t : Result Listed Refusal). IfErr t (λ e. (e ≡ Memory) × IsFaultBy n (IsEditsFault text) e × ((kinds' ≡ kinds) × (locations' ≡ locations) × (texts' ≡ texts)))) (sym h.0)
        (refl, untold_by n text refused, h.1)
