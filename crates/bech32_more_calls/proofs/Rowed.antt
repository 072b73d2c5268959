-- Rows that are put, and one more.
use Rattle.std.proofs.Common.{◌⊎◌, ◌≡◌, ℕ, ◌+◌, ◌<◌, ◌≤◌, List, [], ◌∷◌, ◌++◌, Result, length, length-append, map, min, inl, inr, sym, ap, refl, subst, ◌∙◌, arith}
use Rattle.std.proofs.lemmas.List.{length-map, map-append}
use Rattle.bech32_more_calls.specs.columns.Arrays.{Fills, HoldsArray, concat_of, offsets_of}
use Rattle.bech32_more_calls.specs.columns.Decoded.{AddressRow, IsDecodedRow, LacksItems, LacksRoomForProgram, PutsAddresses, program_of}
use Rattle.bech32_more_calls.specs.columns.Encoded.{IsEncodedAt, LacksRoomForText, PutsTexts, TextRow}
use Rattle.bech32_more_calls.specs.columns.Rows.{EachRow, row_of}
use Rattle.bech32_more_calls.specs.declared.columns.column.Column.{Column}
use Rattle.bech32_more_calls.proofs.Held.{array-more, array-none, held-none, concat_of-size, length-offsets}

-- one more row of which P holds
pub each-more : {R : Type 0} (P : ℕ → Result (List ℕ) ℕ → R → Type 0) (c : Column) (first k : ℕ) (rows : List R) (row : R) (i : ℕ) → i ≡ k + length rows
    → EachRow P c first k rows → P i (row_of c (first + i)) row → EachRow P c first k (rows ++ row ∷ [])
each-more P c first k [] row i at h one = (subst (λ (n : ℕ). P n (row_of c (first + n)) row) (omega (arith, at)) one, tt)
each-more P c first k (r ∷ rows) row i at h one = (h.0, each-more P c first (k + 1) rows row i (omega (arith, at)) h.1 one)

-- the addresses of the first rows, so far
pub record AddressesSoFar (c : Column) (first : ℕ) (hrp numbers numbers' versions versions'
    hrp_lengths hrp_lengths' offsets offsets' programs programs' : List ℕ) (i end : ℕ) : Type 0 where
  pub rows : List AddressRow
  pub each : EachRow (λ k. IsDecodedRow hrp) c first 0 rows
  pub count : length rows ≡ i
  pub numbers_put : Fills (map (λ row. row.number) rows) numbers numbers'
  pub versions_put : Fills (map (λ row. row.version) rows) versions versions'
  pub lengths_put : Fills (map (λ row. row.hrp_length) rows) hrp_lengths hrp_lengths'
  pub programs_put : HoldsArray (map (program_of offsets) rows) offsets offsets' programs programs'
  pub end_is : end ≡ length (concat_of (map (program_of offsets) rows))

-- what is put of a row is held
more-held : {R : Type 0} (f : R → ℕ) (rows : List R) (row : R) (old new new' : List ℕ) (i : ℕ) → length rows ≡ i
    → ((items start : List ℕ) → length items ≡ i → Fills items start new → Fills (items ++ f row ∷ []) start new')
    → Fills (map f rows) old new → Fills (map f (rows ++ row ∷ [])) old new'
more-held f rows row old new new' i count puts h = rw (map-append f rows (row ∷ [])) (puts (map f rows) old (length-map rows f ∙ count) h)

-- the array with the bytes of a row
more-array : {R : Type 0} (f : R → List ℕ) (rows : List R) (row : R) (offsets offsets' offsets'' bytes bytes' bytes'' : List ℕ) (i end : ℕ) → length rows ≡ i
    → end ≡ length (concat_of (map f rows)) → end + length (f row) ≤ length bytes → end + length (f row) < 2_147_483_648
    → ((items start : List ℕ) → length items ≡ i + 1 → Fills items start offsets' → Fills (items ++ (end + length (f row)) ∷ []) start offsets'')
    → ((items start : List ℕ) → length items ≡ end → Fills items start bytes' → Fills (items ++ f row) start bytes'')
    → HoldsArray (map f rows) offsets offsets' bytes bytes' → HoldsArray (map f (rows ++ row ∷ [])) offsets offsets'' bytes bytes''
more-array f rows row offsets offsets' offsets'' bytes bytes' bytes'' i end count is fits small places content h =
    let size : length (offsets_of (map f rows)) ≡ i + 1 = omega (arith, length-offsets (map f rows), length-map rows f, count) in
    rw (map-append f rows (row ∷ []))
    (array-more (map f rows) offsets offsets' offsets'' bytes bytes' bytes'' (f row) end is fits small h
    (places (offsets_of (map f rows)) offsets size h.places) (content (concat_of (map f rows)) bytes (sym is) h.content))

more-end : {R : Type 0} (f : R → List ℕ) (rows : List R) (row : R) (end : ℕ) → end ≡ length (concat_of (map f rows)) → end + length (f row) ≡ length (concat_of (map f (rows ++ row ∷ [])))
more-end f rows row end is = omega (arith, is, concat_of-size (map f rows) (f row), ap (λ (l : List (List ℕ)). length (concat_of l)) (map-append f rows (row ∷ [])))

module _ (c : Column) (first : ℕ) (hrp numbers versions hrp_lengths offsets programs : List ℕ) where
  pub addresses-none : (offsets' : List ℕ) → Fills (0 ∷ []) offsets offsets'
      → AddressesSoFar c first hrp numbers numbers versions versions hrp_lengths hrp_lengths offsets offsets' programs programs 0 0
  addresses-none offsets' h = record {
    rows = [];
    each = tt;
    count = refl;
    numbers_put = held-none numbers;
    versions_put = held-none versions;
    lengths_put = held-none hrp_lengths;
    programs_put = array-none offsets offsets' programs h;
    end_is = refl;
  }

  module _ (numbers' versions' hrp_lengths' offsets' programs' : List ℕ) (i end : ℕ)
      (so_far : AddressesSoFar c first hrp numbers numbers' versions versions' hrp_lengths hrp_lengths' offsets offsets' programs programs' i end) where
    pub addresses-more : (row : AddressRow) (kept numbers'' versions'' hrp_lengths'' offsets'' programs'' : List ℕ)
        → IsDecodedRow hrp (row_of c (first + i)) row → kept ≡ program_of offsets row
        → end + length kept ≤ length programs → end + length kept < 2_147_483_648
        → ((items start : List ℕ) → length items ≡ i → Fills items start numbers' → Fills (items ++ row.number ∷ []) start numbers'')
        → ((items start : List ℕ) → length items ≡ i → Fills items start versions' → Fills (items ++ row.version ∷ []) start versions'')
        → ((items start : List ℕ) → length items ≡ i → Fills items start hrp_lengths' → Fills (items ++ row.hrp_length ∷ []) start hrp_lengths'')
        → ((items start : List ℕ) → length items ≡ i + 1 → Fills items start offsets' → Fills (items ++ (end + length kept) ∷ []) start offsets'')
        → ((items start : List ℕ) → length items ≡ end → Fills items start programs' → Fills (items ++ kept) start programs'')
        → AddressesSoFar c first hrp numbers numbers'' versions versions'' hrp_lengths hrp_lengths'' offsets offsets'' programs programs'' (i + 1) (end + length kept)
    addresses-more row kept numbers'' versions'' hrp_lengths'' offsets'' programs'' said is fits small n v l o p = record {
      rows = so_far.rows ++ row ∷ [];
      each = each-more (λ k. IsDecodedRow hrp) c first 0 so_far.rows row i (omega (arith, so_far.count)) so_far.each said;
      count = length-append so_far.rows (row ∷ []) ∙ ap (λ (m : ℕ). m + 1) so_far.count;
      numbers_put = more-held (λ r. r.number) so_far.rows row numbers numbers' numbers'' i so_far.count n so_far.numbers_put;
      versions_put = more-held (λ r. r.version) so_far.rows row versions versions' versions'' i so_far.count v so_far.versions_put;
      lengths_put = more-held (λ r. r.hrp_length) so_far.rows row hrp_lengths hrp_lengths' hrp_lengths'' i so_far.count l so_far.lengths_put;
      programs_put = more-array (program_of offsets) so_far.rows row offsets offsets' offsets'' programs programs' programs'' i end so_far.count so_far.end_is
          (omega (arith, ap length is, fits)) (omega (arith, ap length is, small))
          (subst (λ (l : List ℕ). (items start : List ℕ) → length items ≡ i + 1 → Fills items start offsets' → Fills (items ++ (end + length l) ∷ []) start offsets'') is o)
          (subst (λ (l : List ℕ). (items start : List ℕ) → length items ≡ end → Fills items start programs' → Fills (items ++ l) start programs'') is p) so_far.programs_put;
      end_is = ap (λ (l : List ℕ). end + length l) is ∙ more-end (program_of offsets) so_far.rows row end so_far.end_is;
    }

    addresses-put : (i ≤ length numbers) → (LacksItems (length versions) (length hrp_lengths) (length offsets) i → ⊥)
        → ((rows : List AddressRow) → length rows ≡ i → end ≡ length (concat_of (map (program_of offsets) rows)) → (i ≡ length numbers)
        ⊎ (LacksItems (length versions) (length hrp_lengths) (length offsets) (i + 1) ⊎ LacksRoomForProgram c first hrp offsets (length programs) rows))
        → PutsAddresses c first hrp numbers numbers' versions versions' hrp_lengths hrp_lengths' offsets offsets' programs programs' i
    addresses-put within room full = record {
      rows = so_far.rows;
      each = so_far.each;
      done_is = sym so_far.count;
      numbers_put = so_far.numbers_put;
      versions_put = so_far.versions_put;
      lengths_put = so_far.lengths_put;
      programs_put = so_far.programs_put;
      within = within;
      room = room;
      full = full so_far.rows so_far.count so_far.end_is;
    }

    -- the next does not fit
    pub addresses-some : (i ≤ length numbers) → (LacksItems (length versions) (length hrp_lengths) (length offsets) i → ⊥)
        → (row : AddressRow) → IsDecodedRow hrp (row_of c (first + i)) row → min (length programs) 2_147_483_647 < end + length (program_of offsets row)
        → PutsAddresses c first hrp numbers numbers' versions versions' hrp_lengths hrp_lengths' offsets offsets' programs programs' i
    addresses-some within room row said lacks = addresses-put within room
        (λ rows count is. inr (inr (record {
          next = row;
          said = subst (λ (n : ℕ). IsDecodedRow hrp (row_of c (first + n)) row) (sym count) said;
          lacks = subst (λ (n : ℕ). min (length programs) 2_147_483_647 < n + length (program_of offsets row)) is lacks;
        })))

-- the texts of the first rows, so far
pub record TextsSoFar (c : Column) (first : ℕ) (hrp versions numbers numbers' offsets offsets' texts texts' : List ℕ) (i end : ℕ) : Type 0 where
  pub rows : List TextRow
  pub each : EachRow (IsEncodedAt hrp versions) c first 0 rows
  pub count : length rows ≡ i
  pub numbers_put : Fills (map (λ row. row.number) rows) numbers numbers'
  pub texts_put : HoldsArray (map (λ row. row.text) rows) offsets offsets' texts texts'
  pub end_is : end ≡ length (concat_of (map (λ row. row.text) rows))

module _ (c : Column) (first : ℕ) (hrp versions numbers offsets texts : List ℕ) where
  pub texts-none : (offsets' : List ℕ) → Fills (0 ∷ []) offsets offsets' → TextsSoFar c first hrp versions numbers numbers offsets offsets' texts texts 0 0
  texts-none offsets' h = record {
    rows = [];
    each = tt;
    count = refl;
    numbers_put = held-none numbers;
    texts_put = array-none offsets offsets' texts h;
    end_is = refl;
  }

  module _ (numbers' offsets' texts' : List ℕ) (i end : ℕ) (so_far : TextsSoFar c first hrp versions numbers numbers' offsets offsets' texts texts' i end) where
    pub texts-more : (row : TextRow) (size : ℕ) (numbers'' offsets'' texts'' : List ℕ) → size ≡ length row.text → IsEncodedAt hrp versions i (row_of c (first + i)) row
        → end + size ≤ length texts → end + size < 2_147_483_648
        → ((items start : List ℕ) → length items ≡ i → Fills items start numbers' → Fills (items ++ row.number ∷ []) start numbers'')
        → ((items start : List ℕ) → length items ≡ i + 1 → Fills items start offsets' → Fills (items ++ (end + size) ∷ []) start offsets'')
        → ((items start : List ℕ) → length items ≡ end → Fills items start texts' → Fills (items ++ row.text) start texts'')
        → TextsSoFar c first hrp versions numbers numbers'' offsets offsets'' texts texts'' (i + 1) (end + size)
    texts-more row size numbers'' offsets'' texts'' is said fits small n o t = record {
      rows = so_far.rows ++ row ∷ [];
      each = each-more (IsEncodedAt hrp versions) c first 0 so_far.rows row i (omega (arith, so_far.count)) so_far.each said;
      count = length-append so_far.rows (row ∷ []) ∙ ap (λ (m : ℕ). m + 1) so_far.count;
      numbers_put = more-held (λ r. r.number) so_far.rows row numbers numbers' numbers'' i so_far.count n so_far.numbers_put;
      texts_put = more-array (λ r. r.text) so_far.rows row offsets offsets' offsets'' texts texts' texts'' i end so_far.count so_far.end_is (omega (arith, is, fits)) (omega (arith, is, small))
          (subst (λ (m : ℕ). (items start : List ℕ) → length items ≡ i + 1 → Fills items start offsets' → Fills (items ++ (end + m) ∷ []) start offsets'') is o) t so_far.texts_put;
      end_is = ap (λ (m : ℕ). end + m) is ∙ more-end (λ r. r.text) so_far.rows row end so_far.end_is;
    }

    texts-put : (i ≤ length numbers) → (i ≡ 0) ⊎ (i < length offsets)
        → ((rows : List TextRow) → length rows ≡ i → end ≡ length (concat_of (map (λ row. row.text) rows)) → (i ≡ length numbers) ⊎ ((length offsets ≤ i + 1) ⊎ LacksRoomForText c first hrp versions (length texts) rows))
        → PutsTexts c first hrp versions numbers numbers' offsets offsets' texts texts' i
    texts-put within room full = record {
      rows = so_far.rows;
      each = so_far.each;
      done_is = sym so_far.count;
      numbers_put = so_far.numbers_put;
      texts_put = so_far.texts_put;
      within = within;
      room = room;
      full = full so_far.rows so_far.count so_far.end_is;
    }

    pub texts-some : (i ≤ length numbers) → (i ≡ 0) ⊎ (i < length offsets)
        → (row : TextRow) → IsEncodedAt hrp versions i (row_of c (first + i)) row → min (length texts) 2_147_483_647 < end + length row.text
        → PutsTexts c first hrp versions numbers numbers' offsets offsets' texts texts' i
    texts-some within room row said lacks = texts-put within room
        (λ rows count is. inr (inr (record {
          next = row;
          said = subst (λ (n : ℕ). IsEncodedAt hrp versions n (row_of c (first + n)) row) (sym count) said;
          lacks = subst (λ (n : ℕ). min (length texts) 2_147_483_647 < n + length row.text) is lacks;
        })))

-- where there is no room for few rows there is none for more
pub lacks-more : (v l o m n : ℕ) → m ≤ n → LacksItems v l o m → LacksItems v l o n
lacks-more v l o m n less (inl h) = inl (h.0, omega (arith, h.1, less))
lacks-more v l o m n less (inr (inl h)) = inr (inl (h.0, omega (arith, h.1, less)))
lacks-more v l o m n less (inr (inr h)) = inr (inr (h.0, omega (arith, h.1, less)))
