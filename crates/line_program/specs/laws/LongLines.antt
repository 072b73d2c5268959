-- All lines that are too long have one reply.
use Rattle.std.specs.Prelude.{◌≡◌, ◌<◌, ℕ, List, Option, length}
use Rattle.std.proofs.lemmas.Bool.{lt-ltb}
use Rattle.line_program.specs.Refused.{err}
use Rattle.line_program.specs.Reply.{IsReplyBy}

pub long_lines : {Request : Type 0} (limit : ℕ) (request_of : List ℕ → Option Request)
    (IsAnswer : Request → List ℕ → Type 0) (one other said : List ℕ)
    → limit < length one → limit < length other
    → IsReplyBy limit request_of IsAnswer one said
    → IsReplyBy limit request_of IsAnswer other said
long_lines limit request_of IsAnswer one other said n m h =
    let refused : said ≡ err 1 = rw (lt-ltb limit (length one) n) at h in
    rw (lt-ltb limit (length other) m) refused
