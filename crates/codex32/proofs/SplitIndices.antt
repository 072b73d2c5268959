-- The indices of shares.
use Rattle.std.specs.Prelude.{◌==◌, ◌≢◌, position, unwrap_or, slice_index}
use Rattle.std.proofs.Common.{◌≡◌, ℕ, zero, suc, ◌+◌, ◌<◌, ◌≤◌, true, List, [], ◌∷◌, refl, sym, ap, ◌∙◌, arith}
use Rattle.std.proofs.lemmas.Bool.{agree_below_at, eqb-true}
use Rattle.bech32_gf.specs.Alphabet.{is_of_alphabet, value_of}
use Rattle.bech32_gf.specs.declared.gf32.Fe32.{Fe32}
use Rattle.bech32_poly.specs.Distinct.{IsNotAmong, IsOnce}
use Rattle.codex32.specs.HeaderParts.{secret_index}
use Rattle.codex32.specs.Split.{split_characters, split_index}

pub of_alphabet : (j : ℕ) → j < 31 → is_of_alphabet (slice_index split_characters j) ≡ true
unfolding is_of_alphabet
of_alphabet j less = agree_below_at (λ k. is_of_alphabet (slice_index split_characters k)) (λ _. true) 31 j refl less

-- the number of the share with an index, by its value; of `s`, 31
abbrev number_of : ℕ → ℕ
number_of v = unwrap_or (position (λ c. value_of c == v) split_characters) 31

numbered : (j : ℕ) → j < 31 → number_of (split_index j).value ≡ j
unfolding value_of
numbered j less = eqb-true (number_of (split_index j).value) j (agree_below_at (λ k. number_of (split_index k).value == k) (λ _. true) 31 j refl less)

of_secret : number_of secret_index.value ≡ 31
unfolding value_of
of_secret = refl

-- they all differ, and none is `s`
pub split-differ : (i j : ℕ) → i < j → j < 31 → split_index i ≢ split_index j
split-differ i j less most same =
    let e : i ≡ j = sym (numbered i (omega (arith, less, most))) ∙ ap (λ (x : Fe32). number_of x.value) same ∙ numbered j most in
    absurd (omega (arith, e, less))

pub split-not_secret : (j : ℕ) → j < 31 → secret_index ≢ split_index j
split-not_secret j less same =
    let e : 31 ≡ j = sym of_secret ∙ ap (λ (x : Fe32). number_of x.value) same ∙ numbered j less in
    absurd (omega (arith, e, less))

-- the indices of shares from number `from` on, as many as the last number says
abbrev pub indices_from : ℕ → ℕ → List Fe32
indices_from from zero = []
indices_from from (suc m) = split_index from ∷ indices_from (suc from) m

differ-behind : (i from m : ℕ) → i < from → from + m ≤ 31 → IsNotAmong (split_index i) (indices_from from m)
differ-behind i from zero less most = tt
differ-behind i from (suc m) less most = (split-differ i from less (omega (arith, most)), differ-behind i (suc from) m (omega (arith, less)) (omega (arith, most)))

pub indices-once : (from m : ℕ) → from + m ≤ 31 → IsOnce (indices_from from m)
indices-once from zero most = tt
indices-once from (suc m) most = (differ-behind from (suc from) m (omega arith) (omega (arith, most)), indices-once (suc from) m (omega (arith, most)))

pub secret-behind : (from m : ℕ) → from + m ≤ 31 → IsNotAmong secret_index (indices_from from m)
secret-behind from zero most = tt
secret-behind from (suc m) most = (split-not_secret from (omega (arith, most)), secret-behind (suc from) m (omega (arith, most)))
