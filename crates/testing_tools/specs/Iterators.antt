-- How far the iterators for tests have come.
use Rattle.std.specs.Prelude.{◌≡◌, ◌+◌, ◌<◌, ◌≤◌, ℕ, Option, IsSome, IsNone}
use Rattle.testing_tools.specs.declared.iterators.TwoItems.{TwoItems}
use Rattle.testing_tools.specs.declared.iterators.TwoOfFive.{TwoOfFive}
use Rattle.testing_tools.specs.declared.iterators.Many.{Many}

-- how often the next item was asked for
abbrev pub times_asked : {T : Type 0} → TwoItems T → ℕ
times_asked s = s.calls

-- the first two times an item comes, and the third time none
abbrev pub GivesTwoItems : {T : Type 0} → TwoItems T → Option T → TwoItems T → Type 0
GivesTwoItems s r t =
    (times_asked s < 2 → IsSome r × (times_asked t ≡ times_asked s + 1))
    × (2 ≤ times_asked s → IsNone r)

-- how many items were given
abbrev pub count_given : {T : Type 0} → TwoOfFive T → ℕ
count_given s = s.given

-- how many items are left
abbrev pub count_left : {T : Type 0} → Many T → ℕ
count_left s = s.left
