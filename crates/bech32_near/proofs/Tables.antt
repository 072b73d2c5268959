-- What a table of sketches tells of the listings with one error and with two.
use Rattle.std.specs.Prelude.{bit_xor, ◌≢◌}
use Rattle.std.specs.List.{Contains}
use Rattle.std.proofs.Common.{◌≡◌, ℕ, ◌+◌, ◌*◌, ◌^◌, ◌<◌, ◌≤◌, List, get_or, length, min, ◌⊎◌, inl, inr, sym, ap, subst, ◌∙◌, arith}
use Rattle.bech32_gf.specs.Fe32 as fe32
use Rattle.bech32_gf.specs.Fe32.{ops}
use Rattle.bech32_gf.specs.declared.gf32.Fe32.{Fe32}
use Rattle.bech32_gf.specs.laws.Fe32Laws.{is_field}
use Rattle.bech32_checksum.specs.Code.{Code}
use Rattle.bech32_lookup.specs.Question.{Question}
use Rattle.bech32_near.specs.search.Added.{IsTableFor}
use Rattle.bech32_near.specs.search.Nearest.{IsEarlier}
use Rattle.bech32_near.specs.search.Sketch.{AreColumns, AreEntries, AreForgotten, IsTable, entry_number, sketch, sketch_at}
use Rattle.bech32_near.specs.search.Steps.{AreAdded, HasHighest}
use Rattle.bech32_near.proofs.Coded.{IsCodedBelow, coded_on}
use Rattle.bech32_near.proofs.Elements.{lowest, value_below}
use Rattle.bech32_near.proofs.Entries.{entry_is, none_between}
use Rattle.bech32_near.proofs.Skipped.{IsPartner, alone, with_other}

-- the table by its parts, where columns and entries were made for it
pub table_for : (code : Code) (bound n : ℕ) (q : Question) (rows : List (ℕ × ℕ)) (w : ℕ) (made seen columns listed entries : List ℕ)
    → length q.erasures ≤ bound → q.window < 2 ^ 24 → AreForgotten rows (min n 12) code.generator q.erasures
    → w ≡ q.window → AreColumns rows (min n 12) code.generator w made → seen ≡ made → columns ≡ made
    → ((window : ℕ) → length seen ≡ 5 * window → AreEntries seen window listed) → entries ≡ listed
    → IsTableFor code bound n q rows columns entries
table_for code bound n q rows w made seen columns listed entries few wide forgotten at are seen_is columns_is of entries_is =
    let here : AreColumns rows (min n 12) code.generator q.window columns =
    subst (λ (v : ℕ). AreColumns rows (min n 12) code.generator v columns) at (subst (λ (u : List ℕ). AreColumns rows (min n 12) code.generator w u) (sym columns_is) are) in
    let same : seen ≡ columns = seen_is ∙ sym columns_is in
    record {
      few = few;
      wide = wide;
      table = record {
        forgotten = forgotten;
        columns_are = here;
        entries_are = subst (λ (u : List ℕ). AreEntries columns q.window u) (sym entries_is)
            (subst (λ (u : List ℕ). AreEntries u q.window listed) same (of q.window (ap (λ u. length u) same ∙ here.long)));
      };
    }

module _ (size : ℕ) (g : List Fe32) (s : List ℕ) (w : ℕ) (rows : List (ℕ × ℕ)) (columns entries : List ℕ) (table : IsTable size g s w rows columns entries) where
  -- an error below the window has its entry
  pub listed : (x : ℕ × Fe32) (key : ℕ) → x.0 < w → x.1 ≢ fe32.zero → sketch_at rows size g x.0 x.1 ≡ key → Contains entries (entry_number key x.0 x.1.value)
  listed x key low not_zero is =
      let some : 0 < x.1.value = lowest x.1 not_zero in
      subst (λ (k : ℕ). Contains entries (entry_number k x.0 x.1.value)) (table.columns_are.keys x.0 low x.1 ∙ is)
      (table.entries_are.all x.0 low x.1.value some (value_below x.1))

  module _ (residue : List Fe32) where
    -- the highest error of a listing without others
    one_listed : (x : ℕ × Fe32) (key : ℕ) (items : List (ℕ × Fe32)) → x.0 < w → key ≡ sketch rows size residue → HasHighest ops g residue s x 0 items → Contains entries (entry_number key x.0 x.1.value)
    one_listed x key items low is h = listed x key low h.not_zero (sym (alone rows size g s table.forgotten residue x items h) ∙ sym is)

    -- where no entry of the sketch that is left is below the location, and something is left
    pub none_with : (x : ℕ × Fe32) (key : ℕ) (items : List (ℕ × Fe32)) → x.0 < w → w < 2 ^ 24 → key ≡ bit_xor (sketch rows size residue) (sketch_at rows size g x.0 x.1) → key ≢ 0
        → ((number : ℕ) → Contains entries number → entry_number key 0 0 < number → entry_number key x.0 0 ≤ number) → HasHighest ops g residue s x 1 items → ⊥
    none_with x key items low wide is some above h = either (with_other rows size g s table.forgotten residue x items h)
      where
        either : (bit_xor (sketch rows size residue) (sketch_at rows size g x.0 x.1) ≡ 0) ⊎ IsPartner rows size g s table.forgotten x (bit_xor (sketch rows size residue) (sketch_at rows size g x.0 x.1)) → ⊥
        either (inl e) = some (is ∙ e)
        either (inr p) =
            let q : ℕ × Fe32 = p.error in
            let within : q.0 < w = omega (arith, p.below, low) in
            let there : Contains entries (entry_number key q.0 q.1.value) = listed q key within p.not_zero (p.same ∙ sym is) in
            let value : q.1.value < 32 = value_below q.1 in
            let positive : 0 < q.1.value = lowest q.1 p.not_zero in
            let number = entry_is key q.0 q.1.value (omega (arith, within, wide)) value in
            let limit = entry_is key x.0 0 (omega (arith, low, wide)) (omega arith) in
            let high = above (entry_number key q.0 q.1.value) there (omega (arith, number, positive)) in
            omega (arith, high, number, limit, value, p.below)

    -- up to the next entry, or the end
    pub on_to : (key i n m limit : ℕ) (old new : List (List (ℕ × Fe32))) → key ≡ sketch rows size residue → n ≤ m → m ≤ limit * 32 → limit ≤ w → w < 2 ^ 24
        → ((k : ℕ) → k < i → entry_number key 0 0 < get_or entries k 0 → get_or entries k 0 < entry_number key 0 0 + n)
        → (i < length entries → entry_number key 0 0 + m ≤ get_or entries i 0)
        → AreAdded (IsEarlier ops fe32.value s) (IsCodedBelow is_field fe32.value lowest fe32.path value_below g residue s n) old new
        → AreAdded (IsEarlier ops fe32.value s) (IsCodedBelow is_field fe32.value lowest fe32.path value_below g residue s m) old new
    on_to key i n m limit old new is le most within wide low high h =
        coded_on is_field fe32.value lowest fe32.path value_below g residue s n m old new le none h
      where
        none : (x : ℕ × Fe32) (items : List (ℕ × Fe32)) → n ≤ x.0 * 32 + fe32.value x.1 → x.0 * 32 + fe32.value x.1 < m → HasHighest ops g residue s x 0 items → ⊥
        none x items from before k =
            let value : x.1.value < 32 = value_below x.1 in
            let positive : 0 < x.1.value = lowest x.1 k.not_zero in
            let below : x.0 < w = omega (arith, before, most, within) in
            let number = entry_is key x.0 x.1.value (omega (arith, below, wide)) value in
            none_between entries i (entry_number key 0 0) (entry_number key 0 0 + n) (entry_number key 0 0 + m) (entry_number key x.0 x.1.value)
            table.entries_are.sorted low high (one_listed x key items below is k) (omega (arith, number, positive)) (omega (arith, number, from)) (omega (arith, number, before))
