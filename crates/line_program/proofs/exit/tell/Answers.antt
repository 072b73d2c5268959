use Rattle.std.proofs.Common.{◌≤◌, ◌+◌, ◌++◌, ◌∷◌, [], ℕ, length, take, codes}
use Rattle.std.proofs.lemmas.Result.{err_from_is_err_and, on_ok_weaker, on_err_weaker}
use Rattle.std.specs.Io.KnownBytes.{Appends}
use Rattle.line_program.proofs.Known.{Appends-then}
use Rattle.line_program.proofs.Told.{first_front, front_then}
use Rattle.line_program.proofs.exit.tell.Goals as goal

pub returns-in_err-write_all-clause-beginning : goal.returns-in_err-write_all-clause-beginning
returns-in_err-write_all-clause-beginning g c =
    let p = err_from_is_err_and c.from_residual.result c.from_residual.ensures.1 in
    let name = c.as_bytes.ensures.value in
    let (n, few, out) = c.in_err-write_all.ensures.beginning in
    rw p.1 (n, first_front _ _ c.args.name.now (codes ": " ++ (c.args.words.now ++ 10 ∷ [])) n (rw name at few) (rw name at out))

pub returns-in_err-write_all-2-clause-beginning : goal.returns-in_err-write_all-2-clause-beginning
returns-in_err-write_all-2-clause-beginning g c =
    let p = err_from_is_err_and c.from_residual-in_err-write_all-2.result c.from_residual-in_err-write_all-2.ensures.1 in
    let name = rw c.as_bytes.ensures.value at c.in_ok-write_all.ensures.ok in
    let (n, few, out) = c.in_err-write_all-2.ensures.beginning in
    rw p.1 (
      length c.args.name.now + n,
      front_then _ _ _ c.args.name.now _ n name (first_front _ _ (codes ": ") (c.args.words.now ++ 10 ∷ []) n few out),
    )

pub returns-in_err-write_all-3-clause-beginning : goal.returns-in_err-write_all-3-clause-beginning
returns-in_err-write_all-3-clause-beginning g c =
    let p = err_from_is_err_and c.from_residual-in_err-write_all-3.result c.from_residual-in_err-write_all-3.ensures.1 in
    let name = rw c.as_bytes.ensures.value at c.in_ok-write_all.ensures.ok in
    let words = c.as_bytes-2.ensures.value in
    let (n, few, out) = c.in_err-write_all-3.ensures.beginning in
    rw p.1 (
      length c.args.name.now + (length (codes ": ") + n),
      front_then _ _ _ c.args.name.now _ (length (codes ": ") + n) name
          (front_then _ _ _ (codes ": ") _ n c.in_ok-write_all-2.ensures.ok (first_front _ _ c.args.words.now (10 ∷ []) n (rw words at few) (rw words at out))),
    )

pub returns-clause-beginning : goal.returns-clause-beginning
returns-clause-beginning g c =
    let name = rw c.as_bytes.ensures.value at c.in_ok-write_all.ensures.ok in
    let words = rw c.as_bytes-2.ensures.value at c.in_ok-write_all-3.ensures.ok in
    on_err_weaker c.write_all-4.result
    (λ (h : (n : ℕ) × (n ≤ 1) × Appends _ _ (take n (10 ∷ []))). (
      length c.args.name.now + (length (codes ": ") + (length c.args.words.now + h.0)),
      front_then _ _ _ c.args.name.now _ (length (codes ": ") + (length c.args.words.now + h.0)) name
          (front_then _ _ _ (codes ": ") _ (length c.args.words.now + h.0) c.in_ok-write_all-2.ensures.ok (front_then _ _ _ c.args.words.now _ h.0 words h.2)),
    ))
    c.write_all-4.ensures.beginning

pub returns-clause-ok : goal.returns-clause-ok
returns-clause-ok g c =
    let name = rw c.as_bytes.ensures.value at c.in_ok-write_all.ensures.ok in
    let words = rw c.as_bytes-2.ensures.value at c.in_ok-write_all-3.ensures.ok in
    on_ok_weaker c.write_all-4.result
    (λ end.
    Appends-then _ _ _ c.args.name.now (codes ": " ++ (c.args.words.now ++ 10 ∷ [])) name
    (Appends-then _ _ _ (codes ": ") (c.args.words.now ++ 10 ∷ []) c.in_ok-write_all-2.ensures.ok (Appends-then _ _ _ c.args.words.now (10 ∷ []) words end)))
    c.write_all-4.ensures.ok
