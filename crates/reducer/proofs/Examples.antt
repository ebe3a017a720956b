-- The sample plan, from its text to its lines, computed from the definitions alone.

use Rattle.std.proofs.Common.{◌≡◌, codes, refl}
use Rattle.std.specs.Fmt.{digits}
use Rattle.plan.specs.Plans.{plan_of}
use Rattle.reducer.specs.Sessions.{session_bytes}

pub sample : session_bytes (codes "low=1\nhigh=3\ndraws=2 5 7 4\nsteps=vsvcsssvccv\n") ≡ codes "v 5 7 4\ns 1\nv 7 4\nc 1\ns 1\ns 1\ns 1\nv 4\nc 1\nc 0\nv 5\n"
unfolding plan_of digits
sample = refl
