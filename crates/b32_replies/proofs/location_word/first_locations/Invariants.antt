use Rattle.std.proofs.Common.{length}
use denote.Text.{Utf8}
use denote.Shadow.{shadow}
use Rattle.b32_replies.proofs.LocationLists.{IsReadTo}
use Rattle.b32_replies.proofs.location_word.first_locations.Given as goal

abbrev pub invariant-pieces : goal.invariant-pieces
invariant-pieces l = record {
  text : shadow (Utf8 l.rest);
  read : IsReadTo l.kept l.word l.rest l.few;
}

abbrev pub decreases-pieces : goal.decreases-pieces
decreases-pieces l = length l.rest
