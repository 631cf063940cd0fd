-- The empty history.
use Rattle.std.proofs.Common.{◌≡◌, ℕ, ◌≤◌, inl, List, [], ◌++◌, length, refl, sym, ap, subst, arith, None}
use Rattle.zk_talk.specs.declared.message.Side.TheVariants.{Client, Server}
use Rattle.zk_talk.specs.{declared.limits.Limits.Limits, Good.IsWhole, Queues.IsQueue, Numbers.HaveNumbers, Stands.TalkState, Stands.Stands}
use Rattle.zk_talk.specs.Conversation.{ClientMay, ServerMay, Conversation, load}
use Rattle.zk_talk.proofs.{Histories.no_bytes, Lists.not_empty, Lists.EachAfter-nil, Lists.both_empty}
use Rattle.zk_waiting.specs.{declared.lane.Lane.Lane, Waiting.Lanes, Waiting.queue_on}
use Rattle.zk_waiting.specs.declared.lane.Lane.TheVariants.{Ping, Auth, Watches, Plain}

abbrev pub no_lanes : ℕ → Lanes
no_lanes max = record { max = max; ping = []; auth = []; watches = []; plain = [] }

abbrev pub start_state : Limits → TalkState
start_state limits = record { limits = limits; client_held = []; server_held = []; client_kept = []; server_kept = []; waiting = no_lanes limits.waiting; client_frames = 0; server_frames = 0; client_size = 0; server_size = 0; answered = None; fault = None }

abbrev pub no_conversation : Conversation
no_conversation = record { client = []; server = [] }

empty_whole : (limits : Limits) → IsWhole limits [] [] [] [] []
empty_whole limits = record {
  client_cut = record { whole = no_bytes Client; within = tt; beginning = inl (omega arith) };
  server_cut = record { whole = no_bytes Server; within = tt; beginning = inl (omega arith) };
}

front_empty : {X : Type 0} (a b : List X) → [] ≡ a ++ b → a ≡ []
front_empty a b e = (both_empty a b (sym e)).0

-- nothing waits
pub no_queue : (max : ℕ) (lane : Lane) → IsQueue lane no_conversation (queue_on lane (no_lanes max))
no_queue max Ping = tt
no_queue max Auth = tt
no_queue max Watches = tt
no_queue max Plain = tt

no_numbers : (max : ℕ) (lane : Lane) → HaveNumbers lane no_conversation (queue_on lane (no_lanes max))
no_numbers max Ping = refl
no_numbers max Auth = refl
no_numbers max Watches = refl
no_numbers max Plain = refl

pub start : (limits : Limits) → Stands (start_state limits) [] []
start limits = record {
  conversation = no_conversation;
  good = record {
    conversation = record { client = EachAfter-nil (ClientMay limits.profile); server = EachAfter-nil (ServerMay []) };
    whole = empty_whole limits;
    causal = λ front rest e sent s later es. absurd (not_empty sent s later (sym es));
    bounded = λ front rest e client further ec server later es w.
        subst (λ z. load z server ≤ limits.waiting) (sym (front_empty client further ec)) (omega arith);
    client_size = omega (arith, ap length (no_bytes Client));
    server_size = omega (arith, ap length (no_bytes Server));
  };
  order = record {
    client = refl;
    server = refl;
    fronts = λ front rest e. ([], [], refl, ([], [], subst (λ z. IsWhole limits z [] [] [] []) (sym (front_empty front rest e)) (empty_whole limits)));
  };
  client_frames = refl;
  server_frames = refl;
  client_size = sym (ap length (no_bytes Client));
  server_size = sym (ap length (no_bytes Server));
  queues = λ lane. no_queue limits.waiting lane;
  numbers = λ lane. no_numbers limits.waiting lane;
  newest = λ kept. absurd (kept refl);
  no_fault = refl;
}
