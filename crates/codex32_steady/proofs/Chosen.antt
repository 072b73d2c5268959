-- What holds of each number that passes a test.
use Rattle.std.proofs.Common.{◌≡◌, ◌||◌, Bool, true}
use mathlib.Core.Bool.{not}

pub second : (x y : Bool) → (not x || y) ≡ true → x ≡ true → y ≡ true
second x y h e = let k : (not true || y) ≡ true = rw e at h in k
