-- Bits cut in bytes, with a last part filled with zeros or dropped.
use Rattle.std.proofs.Common.{◌≡◌, ℕ, zero, suc, ◌+◌, ◌-◌, ◌*◌, ◌/◌, ◌%◌, ◌^◌, ◌<◌, ◌≤◌, Bool, true, false, List, [], ◌∷◌, ◌++◌, length, replicate, Option, Some, None, option_to_list, sym, ap, ◌∙◌, refl, arith, append_assoc, append-nil, length-append}
use Rattle.bech32_gf.specs.declared.gf32.Fe32.{Fe32}
use Rattle.bech32_bits.specs.Adaptor.{then_gives}
use Rattle.bech32_bits.specs.Bits.{bits, fe_bits, cut_in_eights, cut_in_eights_zeropad, cut_bytes, count_bytes}
use Rattle.bech32_bits.proofs.BitLists.{take-one, take-two, join-five, few-bits}
use Rattle.bech32_bits.proofs.RoundTrip.{length-bits, length-fe_bits, length-cut_in_eights}

-- a byte of some first bits, whatever comes behind them
byte_in_front : (padded : Bool) (front after more : List ℕ) (b : ℕ) → ((z : List ℕ) → cut_in_eights (front ++ z) ≡ b ∷ cut_in_eights (after ++ z))
    → cut_bytes padded (front ++ more) ≡ b ∷ cut_bytes padded (after ++ more)
byte_in_front true front after more b h =
    ap cut_in_eights (append_assoc front more (replicate 7 0))
    ∙ h (more ++ replicate 7 0)
    ∙ ap (λ (l : List ℕ). b ∷ cut_in_eights l) (sym (append_assoc after more (replicate 7 0)))
byte_in_front false front after more b h = h more

-- three and more bits, and an element after them
pub cut-one : (padded : Bool) (c h f b : ℕ) (more : List ℕ) → 3 ≤ c → c ≤ 8 → f < 32 → b ≡ (h * 32 + f) / 2 ^ (c - 3) % 256
    → cut_bytes padded (bits c h ++ (bits 5 f ++ more)) ≡ b ∷ cut_bytes padded (bits (c - 3) f ++ more)
cut-one padded c h f b more l u k e =
    ap (cut_bytes padded) (sym (append_assoc (bits c h) (bits 5 f) more))
    ∙ byte_in_front padded (bits c h ++ bits 5 f) (bits (c - 3) f) more b
    (λ z. ap cut_in_eights (append_assoc (bits c h) (bits 5 f) z) ∙ take-one c h f b z l u k e)

-- fewer bits, and two elements after them
pub cut-two : (padded : Bool) (c h f g b : ℕ) (more : List ℕ) → c < 3 → f < 32 → g < 32 → b ≡ ((h * 32 + f) * 32 + g) / 2 ^ (c + 2) % 256
    → cut_bytes padded (bits c h ++ (bits 5 f ++ (bits 5 g ++ more))) ≡ b ∷ cut_bytes padded (bits (c + 2) g ++ more)
cut-two padded c h f g b more l k m e =
    ap (cut_bytes padded) (sym (append_assoc (bits c h) (bits 5 f ++ bits 5 g) more))
    ∙ byte_in_front padded (bits c h ++ (bits 5 f ++ bits 5 g)) (bits (c + 2) g) more b
    (λ z. ap cut_in_eights (append_assoc (bits c h) (bits 5 f ++ bits 5 g) z) ∙ take-two c h f g b z l k m e)

-- fewer than eight bits, filled with zeros
pub filled : (c h : ℕ) → 0 < c → c < 8 → cut_in_eights_zeropad (bits c h) ≡ (h * 2 ^ (8 - c) % 256) ∷ []
filled zero h p l = absurd (omega arith)
filled (suc zero) h p l = ap (λ (b : ℕ). b ∷ []) (omega arith)
filled (suc (suc zero)) h p l = ap (λ (b : ℕ). b ∷ []) (omega arith)
filled (suc (suc (suc zero))) h p l = ap (λ (b : ℕ). b ∷ []) (omega arith)
filled (suc (suc (suc (suc zero)))) h p l = ap (λ (b : ℕ). b ∷ []) (omega arith)
filled (suc (suc (suc (suc (suc zero))))) h p l = ap (λ (b : ℕ). b ∷ []) (omega arith)
filled (suc (suc (suc (suc (suc (suc zero)))))) h p l = ap (λ (b : ℕ). b ∷ []) (omega arith)
filled (suc (suc (suc (suc (suc (suc (suc zero))))))) h p l = ap (λ (b : ℕ). b ∷ []) (omega arith)
filled (suc (suc (suc (suc (suc (suc (suc (suc c)))))))) h p l = absurd (omega arith)

-- or dropped
pub dropped : (c h : ℕ) → c < 8 → cut_in_eights (bits c h) ≡ []
dropped c h l = ap cut_in_eights (sym (append-nil (bits c h))) ∙ few-bits c h l

pub unfilled : (padded : Bool) (c h : ℕ) → c ≡ 0 → cut_bytes padded (bits c h) ≡ []
unfilled true c h e = ap (λ (n : ℕ). cut_bytes true (bits n h)) e
unfilled false c h e = ap (λ (n : ℕ). cut_bytes false (bits n h)) e

-- no bits give no byte
empty : (padded : Bool) → cut_bytes padded [] ≡ []
empty true = refl
empty false = refl

then_nothing : {B : Type 0} → (r : Option B) (ys : List B) → ys ≡ [] → option_to_list r ≡ then_gives r ys
then_nothing None ys e = refl
then_nothing (Some y) ys e = ap (λ l. y ∷ l) (sym e)

-- where no element comes, the last byte is made of the bits that are held
pub end_of_held : (padded : Bool) (c h : ℕ) (r : Option ℕ) (rest : List Fe32) → option_to_list r ≡ cut_bytes padded (bits c h) → rest ≡ []
    → cut_bytes padded (bits c h ++ fe_bits rest) ≡ then_gives r (cut_bytes padded (fe_bits rest))
end_of_held padded c h r rest e z =
    ap (λ (l : List Fe32). cut_bytes padded (bits c h ++ fe_bits l)) z
    ∙ ap (cut_bytes padded) (append-nil (bits c h)) ∙ sym e
    ∙ then_nothing r (cut_bytes padded (fe_bits rest)) (ap (λ (l : List Fe32). cut_bytes padded (fe_bits l)) z ∙ empty padded)

-- or of those and an element's
pub end_of_one : (padded : Bool) (c h f : ℕ) (r : Option ℕ) (rest : List Fe32) → f < 32 → option_to_list r ≡ cut_bytes padded (bits (c + 5) (h * 32 + f)) → rest ≡ []
    → cut_bytes padded (bits c h ++ (bits 5 f ++ fe_bits rest)) ≡ then_gives r (cut_bytes padded (fe_bits rest))
end_of_one padded c h f r rest l e z =
    ap (cut_bytes padded) (join-five c h f (fe_bits rest) l) ∙ end_of_held padded (c + 5) (h * 32 + f) r rest e z

-- how many bytes this many bits of a number and then elements give
pub length-cut_bytes : (padded : Bool) (k n : ℕ) (fes : List Fe32) → length (cut_bytes padded (bits k n ++ fe_bits fes)) ≡ count_bytes padded k (length fes)
length-cut_bytes true k n fes =
    let all : length (fe_bits fes) ≡ 5 * length fes = length-fe_bits fes in
    let held : length (bits k n) ≡ k = length-bits k n in
    length-cut_in_eights ((bits k n ++ fe_bits fes) ++ replicate 7 0) ∙ simp length-append (omega arith)
length-cut_bytes false k n fes =
    let all : length (fe_bits fes) ≡ 5 * length fes = length-fe_bits fes in
    let held : length (bits k n) ≡ k = length-bits k n in
    length-cut_in_eights (bits k n ++ fe_bits fes) ∙ simp length-append (omega arith)
