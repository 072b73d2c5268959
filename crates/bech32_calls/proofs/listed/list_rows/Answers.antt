use Rattle.std.specs.Prelude.{◌==◌}
use Rattle.std.proofs.Common.{◌∙◌, length, refl, ap}
use Rattle.bech32_calls.proofs.listed.list_rows.Goals as goal

pub returns-in-Ok : goal.returns-in-Ok
returns-in-Ok g c =
    let same = c.as_slice-rows.ensures.value in
    let put = c.put_rows-put.result in
    rw c.in-Ok.is (
      c.listed_of.result,
      refl,
      record {
        count_is = c.listed_of.ensures.count ∙ ap length same;
        put_count = put;
        fit_is = c.listed_of.ensures.fit ∙ ap (λ l. put == length l) same;
        most = rw same at c.put_rows-put.ensures.most;
        put = rw same at c.put_rows-put.ensures.put;
      },
    )

pub returns : goal.returns
returns g c = rw c.in-Err.is (refl, (refl, refl, refl))
