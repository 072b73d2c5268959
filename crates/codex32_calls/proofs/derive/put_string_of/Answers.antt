use Rattle.std.specs.List.{sum}
use Rattle.std.proofs.lemmas.List.{take_rest}
use Rattle.std.proofs.Common.{◌++◌, [], ◌≡◌, ◌≤◌, ◌∷◌, ℕ, List, length, take, get_or, subst, arith, rules}
use Rattle.std.proofs.lemmas.Result.{err_from_is_err_and}
use Rattle.bech32_gf.specs.declared.gf32.Fe32.{Fe32}
use Rattle.codex32.specs.Derive.{IsDeriveIntoRefusal}
use Rattle.codex32.specs.Share.{IsShareOf}
use Rattle.codex32.specs.declared.share.Share.{Share}
use Rattle.codex32_calls.specs.Derive.{IsAsked}
use Rattle.codex32_calls.specs.Share.{IsEitherFault}
use Rattle.codex32_calls.proofs.TextsInTurn.{fault-behind, fault-first, refused-from_texts, shares-first, whole-behind}
use Rattle.codex32_calls.proofs.derive.put_string_of.Goals as goal

pub returns-in_err-shares-clause-refused : goal.returns-in_err-shares-clause-refused
returns-in_err-shares-clause-refused c =
    let asked : IsAsked c.args.share_index c.args.texts.now c.args.lengths.now = record { lengths_are = c.requires.lengths_are; index_is = c.in_ok-index.ensures.0 } in
    let some : 1 ≤ length c.args.lengths.now = search rules in
    let is : c.in-Some.first.now ≡ get_or c.args.lengths.now 0 c.in-Some.first.now = search rules in
    let e = c.in_err-shares.field-0.0 in
    let p = err_from_is_err_and c.from_residual-in_err-shares.result c.from_residual-in_err-shares.ensures.1 in
    rw p.1
    (rw p.2
    (λ left.
    refused-from_texts c.args.share_index c.args.texts.now c.args.lengths.now left e asked
    (fault-first c.args.texts.now c.args.lengths.now c.in-Some.first.now e some is (subst (λ (t : List ℕ). IsEitherFault t e) c.split_at.ensures.front c.in_err-shares.ensures))))

pub put_shares-requires-clause-whole : goal.put_shares-requires-clause-whole
put_shares-requires-clause-whole c =
    let some : 1 ≤ length c.args.lengths.now = search rules in
    let is : c.in-Some.first.now ≡ get_or c.args.lengths.now 0 c.in-Some.first.now = search rules in
    let total : sum c.args.lengths.now ≡ length c.args.texts.now = search rules in
    let whole = whole-behind c.args.texts.now c.args.lengths.now _ c.in-Some.first.now some is (take_rest c.args.lengths.now 1) total in
    omega (arith, whole, c.split_at.ensures.back_len)

pub returns-in_err-put_shares-clause-refused : goal.returns-in_err-put_shares-clause-refused
returns-in_err-put_shares-clause-refused c =
    let asked : IsAsked c.args.share_index c.args.texts.now c.args.lengths.now = record { lengths_are = c.requires.lengths_are; index_is = c.in_ok-index.ensures.0 } in
    let some : 1 ≤ length c.args.lengths.now = search rules in
    let n : ℕ = c.in-Some.first.now in
    let is : c.in-Some.first.now ≡ get_or c.args.lengths.now 0 c.in-Some.first.now = search rules in
    let e = c.in_err-put_shares.field-0.0 in
    let s : Share = c.in_ok-shares.field-0 in
    let first : IsShareOf (take n c.args.texts.now) s = subst (λ (t : List ℕ). IsShareOf t s) c.split_at.ensures.front c.in_ok-shares.ensures in
    let p = err_from_is_err_and c.from_residual-in_err-put_shares.result c.from_residual-in_err-put_shares.ensures.1 in
    rw p.1
    (rw p.2
    (λ left. refused-from_texts c.args.share_index c.args.texts.now c.args.lengths.now left e asked (fault-behind c.args.texts.now c.split_at.result.1.now c.args.lengths.now _ n s e some is c.split_at.ensures.back (take_rest c.args.lengths.now 1) first c.in_err-put_shares.ensures.outcome)))

pub returns-in_err-derive_into-clause-refused : goal.returns-in_err-derive_into-clause-refused
returns-in_err-derive_into-clause-refused c =
    let asked : IsAsked c.args.share_index c.args.texts.now c.args.lengths.now = record { lengths_are = c.requires.lengths_are; index_is = c.in_ok-index.ensures.0 } in
    let some : 1 ≤ length c.args.lengths.now = search rules in
    let n : ℕ = c.in-Some.first.now in
    let is : c.in-Some.first.now ≡ get_or c.args.lengths.now 0 c.in-Some.first.now = search rules in
    let s : Share = c.in_ok-shares.field-0 in
    let first : IsShareOf (take n c.args.texts.now) s = subst (λ (t : List ℕ). IsShareOf t s) c.split_at.ensures.front c.in_ok-shares.ensures in
    let shares = take (length c.args.lengths.now) (s ∷ (c.put_shares.new.room ++ [])) in
    let p = err_from_is_err_and c.from_residual-in_err-derive_into.result c.from_residual-in_err-derive_into.ensures.1 in
    rw p.1
    (rw p.2
    (λ left. (
      asked,
      (
        shares,
        shares-first c.args.texts.now c.split_at.result.1.now c.args.lengths.now _ n s c.put_shares.new.room some is c.split_at.ensures.back (take_rest c.args.lengths.now 1) first c.in_ok-put_shares.ensures.outcome,
        subst (λ (x : Fe32). IsDeriveIntoRefusal shares x c.in_err-derive_into.field-0.0) c.in_ok-index.ensures.1 c.in_err-derive_into.ensures.refused,
      ),
    )))

pub returns-clause-value : goal.returns-clause-value
returns-clause-value c =
    let some : 1 ≤ length c.args.lengths.now = search rules in
    let n : ℕ = c.in-Some.first.now in
    let is : c.in-Some.first.now ≡ get_or c.args.lengths.now 0 c.in-Some.first.now = search rules in
    let s : Share = c.in_ok-shares.field-0 in
    let first : IsShareOf (take n c.args.texts.now) s = subst (λ (t : List ℕ). IsShareOf t s) c.split_at.ensures.front c.in_ok-shares.ensures in
    let all = shares-first c.args.texts.now c.split_at.result.1.now c.args.lengths.now _ n s c.put_shares.new.room some is c.split_at.ensures.back (take_rest c.args.lengths.now 1) first c.in_ok-put_shares.ensures.outcome in
    search (rules, all)
