-- What clients may keep bounds what is kept.
use Rattle.std.proofs.Common.{◌≡◌, ◌≤◌, ◌+◌, ℕ, arith, max}
use Rattle.mc_net.specs.Buffers.{changed, excess, kept_in, share_of}
use Rattle.mc_net.specs.declared.buffers.Buffers.{Buffers}
use Rattle.mc_net.specs.declared.buffers.Right.TheVariants.{Usual, Behind, Ahead}
use Rattle.mc_net.specs.declared.buffers.TheConstants.{ROOM_AHEAD}

pub usual_bound : (buffers : Buffers) (kept after : ℕ) → excess kept ≤ buffers.kept → after ≤ share_of buffers kept Usual
    → kept_in (changed kept after buffers) ≤ max buffers.most (kept_in buffers)
usual_bound buffers kept after held fits = omega (arith, held, fits)

pub behind_bound : (buffers : Buffers) (kept after : ℕ) → excess kept ≤ buffers.kept → after ≤ share_of buffers kept Behind
    → kept_in (changed kept after buffers) ≤ kept_in buffers
behind_bound buffers kept after held fits = omega (arith, held, fits)

pub ahead_bound : (buffers : Buffers) (kept after : ℕ) → excess kept ≤ buffers.kept → after ≤ share_of buffers kept Ahead
    → kept_in (changed kept after buffers) ≤ max (buffers.most + ROOM_AHEAD) (kept_in buffers)
ahead_bound buffers kept after held fits = omega (arith, held, fits)
