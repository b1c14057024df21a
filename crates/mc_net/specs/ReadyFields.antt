-- What the fields of a queue of ready clients keep to. All of it is this project's own.
use Rattle.std.specs.Prelude.{ℕ, ◌≡◌, ◌≤◌, Bool, true, false, List, slice_index_or, vec_len}
use Rattle.std.specs.VecDeque.{deque_len, deque_capacity}
use Rattle.mc_net.specs.ReadyQueues.{are_distinct, has_key, marked}
use Rattle.mc_net.specs.declared.ready_queues.ReadyQueue.TheInside.{Inside}

-- of each key, whether it is in the queue
abbrev pub AreMarks : List Bool → List ℕ → Type 0
AreMarks marks keys = (key : ℕ) → slice_index_or marks key false ≡ has_key key keys

-- the marks say which keys are in the queue, each once, and there is room for all
pub record IsQueue (queue : Inside) : Type 0 where
  pub marks : AreMarks queue.marks.items queue.keys.items
  pub distinct : are_distinct queue.keys.items ≡ true
  pub count : marked queue.marks.items ≡ deque_len queue.keys
  pub room : vec_len queue.marks ≤ deque_capacity queue.keys
