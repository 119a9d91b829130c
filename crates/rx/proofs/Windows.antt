use Rattle.std.proofs.Common.{ℕ, ◌*◌, ◌%◌, ◌≤◌, ◌<◌, sym, subst, arith}
use Rattle.std.proofs.Math.Nat.{mod-eq_of_lt, mul-mod_left}
use Rattle.guest_image.specs.Layout.{IsWindow}

-- so many MiB are a window
is_window : (n : ℕ) → 1 ≤ n → n ≤ 64 → IsWindow (n * 1048576)
is_window n least most = record { whole = mul-mod_left n 1048576; least = omega arith; most = omega arith }

pub window_shifted : (n : ℕ) → 1 ≤ n → n ≤ 64 → IsWindow (n * 1048576 % 4294967296)
window_shifted n least most =
    let small : n * 1048576 < 4294967296 = omega arith in
    subst (λ w. IsWindow w) (sym (mod-eq_of_lt small)) (is_window n least most)
