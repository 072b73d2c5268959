use Rattle.std.proofs.Common.{◌≡◌, ◌<◌, ◌≤◌, ◌+◌, ◌-◌, ◌*◌, ◌/◌, ◌∙◌, ℕ, min, sym, subst, arith}
use Rattle.std.proofs.lemmas.Bool.{cond-false, cond-true, le-ltb, lt-ltb}
use Rattle.bech32_descriptor.specs.PairWalks.{group_power, symbol_power}
use Rattle.bech32_descriptor.specs.Walks.{behind_group, behind_symbol, rows_for}
use Rattle.bech32_descriptor.proofs.MarkedChanges.{powers_fit}
use Rattle.bech32_descriptor.proofs.places.powers_at.Goals as goal

symbol_behind : (n i : ℕ) → n ≤ i + 9 → n - 1 - i ≡ symbol_power n i
symbol_behind n i h = sym (cond-false _ _ _ (le-ltb (i + 9) n h))

group_behind : (n i : ℕ) → n ≤ i + 9 → n - 1 - i ≡ group_power n i
group_behind n i h = sym (cond-false _ _ _ (le-ltb (i + 9) n h))

group_before : (n i e : ℕ) → i + 9 < n → e ≡ min (3 * (i / 3) + 3) (n - 9) → 8 + (n - 9 - e) + (n - 9 - e + 2) / 3 ≡ group_power n i
group_before n i e low is =
    let same : 8 + (n - 9 - e) + (n - 9 - e + 2) / 3 ≡ 8 + behind_group (n - 9) i = omega (arith, is) in
    same ∙ sym (cond-true _ _ _ (lt-ltb (i + 9) n low))

symbol_before : (n i e : ℕ) → i + 9 < n → e ≡ min (3 * (i / 3) + 3) (n - 9) → 8 + (n - 9 - e) + (n - 9 - e + 2) / 3 + (e - i) ≡ symbol_power n i
symbol_before n i e low is =
    let same : 8 + (n - 9 - e) + (n - 9 - e + 2) / 3 + (e - i) ≡ 8 + behind_symbol (n - 9) i = omega (arith, is) in
    same ∙ sym (cond-true _ _ _ (lt-ltb (i + 9) n low))

fits_by : (n i p q : ℕ) → 9 ≤ n → i < n → p ≡ symbol_power n i → q ≡ group_power n i → (32 * p + 32 ≤ rows_for n) × (32 * q + 32 ≤ rows_for n)
fits_by n i p q long low a b =
    let both = powers_fit n i long low in
    (subst (λ (k : ℕ). 32 * k + 32 ≤ rows_for n) (sym a) both.0, subst (λ (k : ℕ). 32 * k + 32 ≤ rows_for n) (sym b) both.1)

pub returns-then-n-i-clause-symbol : goal.returns-then-n-i-clause-symbol
returns-then-n-i-clause-symbol c = symbol_behind c.args.n c.args.i (omega arith)

pub returns-then-n-i-clause-group : goal.returns-then-n-i-clause-group
returns-then-n-i-clause-group c = group_behind c.args.n c.args.i (omega arith)

pub returns-then-n-i-clause-fits : goal.returns-then-n-i-clause-fits
returns-then-n-i-clause-fits c =
    fits_by c.args.n c.args.i _ _ c.requires.long c.requires.within (symbol_behind c.args.n c.args.i (omega arith)) (group_behind c.args.n c.args.i (omega arith))

pub returns-clause-symbol : goal.returns-clause-symbol
returns-clause-symbol c = symbol_before c.args.n c.args.i c.min-end.result (omega arith) c.min-end.ensures

pub returns-clause-group : goal.returns-clause-group
returns-clause-group c = group_before c.args.n c.args.i c.min-end.result (omega arith) c.min-end.ensures

pub returns-clause-fits : goal.returns-clause-fits
returns-clause-fits c =
    fits_by c.args.n c.args.i _ _ c.requires.long c.requires.within
    (symbol_before c.args.n c.args.i c.min-end.result (omega arith) c.min-end.ensures) (group_before c.args.n c.args.i c.min-end.result (omega arith) c.min-end.ensures)
