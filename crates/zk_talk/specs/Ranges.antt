-- The ranges of a conversation's limits.
use Rattle.std.specs.Prelude.{ℕ, ◌≤◌}

-- frames of 64 bytes to 16 MiB, and 1 to 1,048,576 requests and parts that wait
abbrev pub AreLimits : ℕ → ℕ → ℕ → Type 0
AreLimits client server waiting = (64 ≤ client) × (client ≤ 16777216) × (64 ≤ server) × (server ≤ 16777216) × (1 ≤ waiting) × (waiting ≤ 1048576)
