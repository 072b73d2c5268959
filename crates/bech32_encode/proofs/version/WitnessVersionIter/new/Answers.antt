use Rattle.std.proofs.Common.{◌≡◌, ◌++◌, option_to_list, refl}
use Rattle.bech32_bits.proofs.AdaptorWalks.{walk_holds, runs_hold}
use Rattle.bech32_encode.specs.WitnessVersion.{version_source, version_gives}
use Rattle.bech32_encode.proofs.version.WitnessVersionIter.new.Goals as goal

pub returns-clause-walk : goal.returns-clause-walk
returns-clause-walk g c =
    walk_holds g.I.Iterator.next_gives version_source version_gives (λ xs fes. fes ≡ option_to_list c.args.version ++ xs) _ _ c.fuse.ensures.source c.fuse.ensures.done (λ xs. refl)

pub returns-clause-runs : goal.returns-clause-runs
returns-clause-runs g c =
    runs_hold g.I.Iterator.next_gives version_source version_gives (λ xs fes. fes ≡ option_to_list c.args.version ++ xs) _ _ c.fuse.ensures.source c.fuse.ensures.done (λ xs. refl)
