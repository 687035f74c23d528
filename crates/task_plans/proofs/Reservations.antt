-- Elements that are reserved for records and then for blanks: n and m are how many, and k how many were parked.
use Rattle.std.proofs.Common.{◌≡◌, ℕ, ◌+◌, ◌≤◌, arith}

pub blanks_room : (n m s t b : ℕ) → n + m ≤ s → s ≤ t + n → b ≡ m → b ≤ t
blanks_room n m s t b h spare is = omega arith

pub both_used : (n m s t u b : ℕ) → s ≤ t + n → b ≡ m → t ≤ u + b → s ≤ u + (n + m)
both_used n m s t u b first is second = omega arith

pub both_live : (n m s t u b : ℕ) → t ≤ s + n → b ≡ m → u ≤ t + b → u ≤ s + (n + m)
both_live n m s t u b first is second = omega arith

pub records_room : (n m s : ℕ) → n + m ≤ s → n ≤ s
records_room n m s h = omega arith

pub blanks_room_behind : (k n m s t b : ℕ) → k + (n + m) ≤ s → s ≤ t + (k + n) → b ≡ m → b ≤ t
blanks_room_behind k n m s t b h spare is = omega arith

pub all_used : (k n m s t u b : ℕ) → s ≤ t + (k + n) → b ≡ m → t ≤ u + b → s ≤ u + (k + (n + m))
all_used k n m s t u b first is second = omega arith

pub all_live : (k n m s t u b : ℕ) → t ≤ s + (k + n) → b ≡ m → u ≤ t + b → u ≤ s + (k + (n + m))
all_live k n m s t u b first is second = omega arith

pub records_room_behind : (k n m s : ℕ) → k + (n + m) ≤ s → k + n ≤ s
records_room_behind k n m s h = omega arith
