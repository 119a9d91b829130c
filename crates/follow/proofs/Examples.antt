-- What the definitions compute at values.
use Rattle.alloc_env.specs.declared.env.Env.TheVariants.{All, Delay, Isolate, Pad, Plain, Zero}
use Rattle.session_notes.specs.declared.episode.Tried.TheVariants.{Asks, Behind, Contradicts}
use Rattle.follow.proofs.Terms.{List, [], map, refl, ℕ, ◌++◌, ◌∷◌, ◌≡◌, Send, sent_to, Env, Hang, env_at, until, Episode, plan_of, ranges_of, held}

-- an episode at a point, of which the second trial survived: from this checkpoint, in this environment
abbrev survived : ℕ → Env → ℕ → Episode
survived checkpoint env point = record {
  point = point;
  cause = Hang;
  pc = 0;
  tries = record { checkpoint = point; env = Isolate; tried = Behind } ∷ record { checkpoint = checkpoint; env = env; tried = Asks } ∷ [];
}

-- one of which none did
abbrev given_up : ℕ → Episode
given_up point = record { point = point; cause = Hang; pc = 0; tries = record { checkpoint = 0; env = All; tried = Contradicts } ∷ [] }

-- the environment in force at each of the first twelve counts of items
abbrev in_force : List Episode → List Env
in_force episodes = map (env_at Plain (plan_of 4 episodes)) (0 ∷ 1 ∷ 2 ∷ 3 ∷ 4 ∷ 5 ∷ 6 ∷ 7 ∷ 8 ∷ 9 ∷ 10 ∷ 11 ∷ [])

-- the later one is in force behind its checkpoint, and the earlier one up to there
two_in_turn : in_force (survived 1 Pad 2 ∷ survived 3 Delay 5 ∷ []) ≡ Plain ∷ Plain ∷ Pad ∷ Pad ∷ Delay ∷ Delay ∷ Delay ∷ Delay ∷ Delay ∷ Plain ∷ Plain ∷ Plain ∷ []
two_in_turn = refl

-- a later one from the start leaves nothing of the earlier one
from_the_start : in_force (survived 1 Pad 2 ∷ survived 0 All 4 ∷ []) ≡ All ∷ All ∷ All ∷ All ∷ All ∷ All ∷ All ∷ All ∷ Plain ∷ Plain ∷ Plain ∷ Plain ∷ []
from_the_start = refl

-- nor does one from an earlier checkpoint
from_earlier : in_force (survived 3 Pad 5 ∷ survived 1 Delay 7 ∷ []) ≡ Plain ∷ Plain ∷ Delay ∷ Delay ∷ Delay ∷ Delay ∷ Delay ∷ Delay ∷ Delay ∷ Delay ∷ Delay ∷ Plain ∷ []
from_earlier = refl

-- one that no trial survived changes nothing
none_survived : in_force (survived 0 Zero 0 ∷ given_up 5 ∷ []) ≡ Zero ∷ Zero ∷ Zero ∷ Zero ∷ Plain ∷ Plain ∷ Plain ∷ Plain ∷ Plain ∷ Plain ∷ Plain ∷ Plain ∷ []
none_survived = refl

-- and where an environment is kept for one item: the first two are apart
kept_for_one : map (env_at Plain (plan_of 1 (survived 1 Pad 2 ∷ survived 3 Delay 5 ∷ []))) (0 ∷ 1 ∷ 2 ∷ 3 ∷ 4 ∷ 5 ∷ 6 ∷ 7 ∷ []) ≡ Plain ∷ Plain ∷ Pad ∷ Plain ∷ Delay ∷ Delay ∷ Plain ∷ Plain ∷ []
kept_for_one = refl

-- over another environment, which is in force where none of theirs is
over_pad : map (env_at Pad (plan_of 4 (survived 1 Zero 2 ∷ []))) (0 ∷ 1 ∷ 2 ∷ 3 ∷ 4 ∷ 5 ∷ 6 ∷ 7 ∷ []) ≡ Pad ∷ Pad ∷ Zero ∷ Zero ∷ Zero ∷ Zero ∷ Pad ∷ Pad ∷ []
over_pad = refl

-- as ranges: the first of them has two, and the third one
two_ranges : ranges_of 4 (survived 1 Pad 2 ∷ survived 3 Delay 5 ∷ []) ≡ record { low = 4; until = 9; env = Delay } ∷ record { low = 2; until = 6; env = Pad } ∷ []
two_ranges = refl

one_range : ranges_of 4 (survived 3 Pad 5 ∷ survived 1 Delay 7 ∷ []) ≡ record { low = 2; until = 11; env = Delay } ∷ []
one_range = refl

-- A run sent a reply with 2 items taken, and one with 3. The first host passed the first one with 4 items received, and a second host gives the other with
-- 3: by these stamps the other one would have come alone. So what clients hold stands by the numbers of items at which it was sent.
abbrev given : List Send
given = record { conn = 0; bytes = 98 ∷ []; taken = 3 } ∷ []

by_first_stamps : sent_to 0 (until 3 (record { conn = 0; bytes = 97 ∷ []; taken = 4 } ∷ given)) ≡ 98 ∷ []
by_first_stamps = refl

as_held : sent_to 0 (until 3 (held ((0, 1) ∷ []) (record { conn = 0; bytes = 97 ∷ []; taken = 2 } ∷ given) ++ given)) ≡ 97 ∷ 98 ∷ []
as_held = refl
