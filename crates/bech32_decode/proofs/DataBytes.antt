-- The bytes of characters, put into a buffer group by group.
use Rattle.std.proofs.Common.{◌≡◌, ℕ, suc, ◌+◌, ◌-◌, ◌*◌, ◌/◌, ◌%◌, ◌<◌, ◌≤◌, List, [], ◌∷◌, ◌++◌, length, take, drop, get_or, set, refl, sym, ap, ◌∙◌, arith, append_assoc, length-append}
use Rattle.std.proofs.lemmas.List.{drop-drop, drop_at, drop-take, drop_more, length-map, length-take-le, map-append, set_at, set_comm, take-append-drop, take-take, take_at}
use Rattle.bech32_gf.specs.Fe32.{element_of, elements_of}
use Rattle.bech32_bits.specs.Bits.{to_bytes}
use Rattle.bech32_bits.proofs.WholeGroups.{five_of, to_bytes-append}
use Rattle.bech32_bits.proofs.RoundTrip.{length-to_bytes}

-- ---- the characters of a group

-- ---- whole groups and the others

elements-length : (n : ℕ) (cs : List ℕ) → n ≤ length cs → length (elements_of (take n cs)) ≡ n
elements-length n cs l = length-map (take n cs) element_of ∙ length-take-le n cs l

pub bytes_halves : (n : ℕ) (cs : List ℕ) → n % 8 ≡ 0 → n ≤ length cs
    → to_bytes (elements_of cs) ≡ to_bytes (elements_of (take n cs)) ++ to_bytes (elements_of (drop n cs))
bytes_halves n cs w l =
    let whole : length (elements_of (take n cs)) % 8 ≡ 0 = ap (λ (k : ℕ). k % 8) (elements-length n cs l) ∙ w in
    ap (λ (xs : List ℕ). to_bytes (elements_of xs)) (sym (take-append-drop n cs))
    ∙ ap to_bytes (map-append element_of (take n cs) (drop n cs))
    ∙ to_bytes-append (elements_of (take n cs)) (elements_of (drop n cs)) whole

-- the bytes of groups, and those of one more
pub bytes_more : (n m : ℕ) (cs : List ℕ) → n % 8 ≡ 0 → n + m ≤ length cs
    → to_bytes (elements_of (take (n + m) cs)) ≡ to_bytes (elements_of (take n cs)) ++ to_bytes (elements_of (take m (drop n cs)))
bytes_more n m cs w l =
    let all : length (take (n + m) cs) ≡ n + m = length-take-le (n + m) cs l in
    bytes_halves n (take (n + m) cs) w (omega arith)
    ∙ ap (λ (xs : List ℕ). to_bytes (elements_of xs) ++ to_bytes (elements_of (drop n (take (n + m) cs)))) (take-take n (n + m) cs (omega arith))
    ∙ ap (λ (xs : List ℕ). to_bytes (elements_of (take n cs)) ++ to_bytes (elements_of xs)) (drop-take n m cs)

-- how many bytes groups give
pub groups-length : (i : ℕ) (cs : List ℕ) → i * 8 ≤ length cs → length (to_bytes (elements_of (take (i * 8) cs))) ≡ i * 5
groups-length i cs l =
    let size : length (elements_of (take (i * 8) cs)) ≡ i * 8 = elements-length (i * 8) cs l in
    length-to_bytes (elements_of (take (i * 8) cs)) ∙ (omega arith)

-- ---- the buffer

-- bytes put behind others
pub put_behind : (front more old before new : List ℕ) (at n : ℕ) → length front ≡ at → at ≤ n → before ≡ front ++ drop at old
    → new ≡ take at before ++ (more ++ drop n before) → new ≡ (front ++ more) ++ drop n old
put_behind front more old before new at n size within is made =
    let back : drop at before ≡ drop at old = ap (drop at) is ∙ drop_at front (drop at old) at size in
    let parts : at + (n - at) ≡ n = omega arith in
    let others : drop n before ≡ drop n old =
    ap (λ (k : ℕ). drop k before) (sym parts) ∙ sym (drop-drop (n - at) at before) ∙ ap (drop (n - at)) back
    ∙ drop-drop (n - at) at old ∙ ap (λ (k : ℕ). drop k old) parts in
    made
    ∙ ap (λ (l : List ℕ). l ++ (more ++ drop n before)) (ap (take at) is ∙ take_at front (drop at old) at size)
    ∙ ap (λ (l : List ℕ). front ++ (more ++ l)) others
    ∙ sym (append_assoc front more (drop n old))

-- the bytes of one group more
pub group_more : (i : ℕ) (cs rest old before new : List ℕ) → i < length cs / 8 → rest ≡ drop (i * 8) cs
    → before ≡ to_bytes (elements_of (take (i * 8) cs)) ++ drop (i * 5) old
    → new ≡ take (i * 5) before ++ (to_bytes (elements_of (take 8 rest)) ++ drop (i * 5 + 5) before)
    → new ≡ to_bytes (elements_of (take ((i + 1) * 8) cs)) ++ drop ((i + 1) * 5) old
group_more i cs rest old before new below is so_far made =
    let front : List ℕ = to_bytes (elements_of (take (i * 8) cs)) in
    let whole : (i * 8) % 8 ≡ 0 = omega arith in
    let inside : i * 8 + 8 ≤ length cs = omega arith in
    let next : i * 8 + 8 ≡ (i + 1) * 8 = omega arith in
    let end : i * 5 + 5 ≡ (i + 1) * 5 = omega arith in
    put_behind front (to_bytes (elements_of (take 8 rest))) old before new (i * 5) (i * 5 + 5) (groups-length i cs (omega arith)) (omega arith) so_far made
    ∙ ap (λ (xs : List ℕ). (front ++ to_bytes (elements_of (take 8 xs))) ++ drop (i * 5 + 5) old) is
    ∙ ap (λ (l : List ℕ). l ++ drop (i * 5 + 5) old) (sym (bytes_more (i * 8) 8 cs whole inside))
    ∙ ap (λ (k : ℕ). to_bytes (elements_of (take k cs)) ++ drop (i * 5 + 5) old) next
    ∙ ap (λ (k : ℕ). to_bytes (elements_of (take ((i + 1) * 8) cs)) ++ drop k old) end

-- one byte more of those that were given and are to come
pub one_fits : (given all left left' : List ℕ) (byte : ℕ) → given ++ left ≡ all → left ≡ byte ∷ left' → length given < length all
one_fits given all left left' byte e step =
    let long : length all ≡ length given + length left = ap length (sym e) ∙ length-append given left in
    let more : length left ≡ suc (length left') = ap length step in
    omega arith

pub one_given : (given all left left' : List ℕ) (byte : ℕ) → given ++ left ≡ all → left ≡ byte ∷ left' → (given ++ byte ∷ []) ++ left' ≡ all
one_given given all left left' byte e step =
    append_assoc given (byte ∷ []) left' ∙ ap (λ (l : List ℕ). given ++ l) (sym step) ∙ e

-- one byte more
pub byte_more : (front more old before : List ℕ) (at count byte : ℕ) → at ≤ length old → count ≡ at + length more → count < length old → front ≡ take at old
    → before ≡ front ++ (more ++ drop count old)
    → set before count byte ≡ front ++ ((more ++ byte ∷ []) ++ drop (count + 1) old)
byte_more front more old before at count byte l is room part so_far =
    let size : length front ≡ at = ap length part ∙ length-take-le at old l in
    let both : length (front ++ more) ≡ count = length-append front more ∙ (omega arith) in
    ap (λ (b : List ℕ). set b count byte) (so_far ∙ ap (λ (b : List ℕ). front ++ (more ++ b)) (drop_more old count 0 room) ∙ sym (append_assoc front more (get_or old count 0 ∷ drop (count + 1) old)))
    ∙ set_at (front ++ more) (get_or old count 0) (drop (count + 1) old) byte count both
    ∙ append_assoc front more (byte ∷ drop (count + 1) old)
    ∙ ap (λ (b : List ℕ). front ++ b) (sym (append_assoc more (byte ∷ []) (drop (count + 1) old)))

-- the same, with the place behind it named
next_byte : (more old before : List ℕ) (at count next byte : ℕ) → at ≤ length old → count ≡ at + length more → count < length old → next ≡ count + 1
    → before ≡ take at old ++ (more ++ drop count old)
    → set before count byte ≡ take at old ++ ((more ++ byte ∷ []) ++ drop next old)
next_byte more old before at count next byte l is room e so_far =
    byte_more (take at old) more old before at count byte l is room refl so_far
    ∙ ap (λ (k : ℕ). take at old ++ ((more ++ byte ∷ []) ++ drop k old)) (sym e)

-- five bytes, one after another, the first of them last
pub five_set : (bytes old : List ℕ) (at : ℕ) → length bytes ≡ 5 → at + 5 ≤ length old
    → set (set (set (set (set old (at + 1) (get_or bytes 1 0)) (at + 2) (get_or bytes 2 0)) (at + 3) (get_or bytes 3 0)) (at + 4) (get_or bytes 4 0)) at (get_or bytes 0 0)
    ≡ take at old ++ (bytes ++ drop (at + 5) old)
five_set bytes old at n room =
    let a : ℕ = get_or bytes 0 0 in
    let b : ℕ = get_or bytes 1 0 in
    let c : ℕ = get_or bytes 2 0 in
    let d : ℕ = get_or bytes 3 0 in
    let e : ℕ = get_or bytes 4 0 in
    let one = next_byte [] old old at at (at + 1) a (omega arith) (omega arith) (omega arith) refl (sym (take-append-drop at old)) in
    let two = next_byte (a ∷ []) old _ at (at + 1) (at + 2) b (omega arith) (omega arith) (omega arith) (omega arith) one in
    let three = next_byte (a ∷ b ∷ []) old _ at (at + 2) (at + 3) c (omega arith) (omega arith) (omega arith) (omega arith) two in
    let four = next_byte (a ∷ b ∷ c ∷ []) old _ at (at + 3) (at + 4) d (omega arith) (omega arith) (omega arith) (omega arith) three in
    let s1 : List ℕ = set old (at + 1) b in
    let s2 : List ℕ = set s1 (at + 2) c in
    let s3 : List ℕ = set s2 (at + 3) d in
    set_comm s3 (at + 4) at e a (λ z. omega (arith, z))
    ∙ ap (λ (l : List ℕ). set l (at + 4) e)
    (set_comm s2 (at + 3) at d a (λ z. omega (arith, z))
    ∙ ap (λ (l : List ℕ). set l (at + 3) d)
    (set_comm s1 (at + 2) at c a (λ z. omega (arith, z))
    ∙ ap (λ (l : List ℕ). set l (at + 2) c) (set_comm old (at + 1) at b a (λ z. omega (arith, z)))))
    ∙ next_byte (a ∷ b ∷ c ∷ d ∷ []) old _ at (at + 4) (at + 5) e (omega arith) (omega arith) (omega arith) (omega arith) four
    ∙ ap (λ (l : List ℕ). take at old ++ (l ++ drop (at + 5) old)) (sym (five_of bytes n))

-- whole groups and then the others are all bytes
pub all_bytes : (w count : ℕ) (cs rest old between new : List ℕ) → w ≡ length cs / 8 → rest ≡ drop (w * 8) cs
    → between ≡ to_bytes (elements_of (take (w * 8) cs)) ++ drop (w * 5) old
    → count ≡ w * 5 + length (to_bytes (elements_of rest))
    → new ≡ take (w * 5) between ++ (to_bytes (elements_of rest) ++ drop count between)
    → (count ≡ length (to_bytes (elements_of cs))) × (new ≡ to_bytes (elements_of cs) ++ drop count old)
all_bytes w count cs rest old between new of is groups counted made =
    let inside : w * 8 ≤ length cs = omega arith in
    let whole : (w * 8) % 8 ≡ 0 = omega arith in
    let front : List ℕ = to_bytes (elements_of (take (w * 8) cs)) in
    let back : List ℕ = to_bytes (elements_of rest) in
    let size : length front ≡ w * 5 = groups-length w cs inside in
    let both : to_bytes (elements_of cs) ≡ front ++ back =
    bytes_halves (w * 8) cs whole inside ∙ ap (λ (l : List ℕ). front ++ to_bytes (elements_of l)) (sym is) in
    let long : length (to_bytes (elements_of cs)) ≡ length front + length back = ap length both ∙ length-append front back in (
      omega arith,
      put_behind front back old between new (w * 5) count size (omega arith) groups made ∙ ap (λ (l : List ℕ). l ++ drop count old) (sym both),
    )

-- what there is room for
pub groups_fit : (cs : List ℕ) → length cs / 8 * 5 ≤ length (to_bytes (elements_of cs))
groups_fit cs =
    let size : length (elements_of cs) ≡ length cs = length-map cs element_of in
    let bytes : length (to_bytes (elements_of cs)) ≡ (5 * length (elements_of cs) + 0) / 8 = length-to_bytes (elements_of cs) in
    omega arith

pub rest_fits : (cs rest : List ℕ) → rest ≡ drop (length cs / 8 * 8) cs
    → length cs / 8 * 5 + length (to_bytes (elements_of rest)) ≡ length (to_bytes (elements_of cs))
rest_fits cs rest is =
    let w : ℕ = length cs / 8 in
    let inside : length cs / 8 * 8 ≤ length cs = omega arith in
    let whole : (length cs / 8 * 8) % 8 ≡ 0 = omega arith in
    let front : List ℕ = to_bytes (elements_of (take (w * 8) cs)) in
    let back : List ℕ = to_bytes (elements_of rest) in
    let size : length front ≡ w * 5 = groups-length w cs inside in
    let both : to_bytes (elements_of cs) ≡ front ++ back =
    bytes_halves (w * 8) cs whole inside ∙ ap (λ (l : List ℕ). front ++ to_bytes (elements_of l)) (sym is) in
    let long : length (to_bytes (elements_of cs)) ≡ length front + length back = ap length both ∙ length-append front back in
    omega arith
