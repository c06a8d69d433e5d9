-- The worked cases hold.
use Rattle.std.proofs.Common.{refl, lit<, lit≤}
use Rattle.forms.specs.Bench.{AllHold, cases}
use Rattle.forms.proofs.Reading.{reduced-writes-near, reduced-writes-far, reduced-dead}

pub cases-hold : AllHold cases
cases-hold = (
  reduced-writes-near 8 3 10 16 (lit≤ tt) (lit≤ tt) (lit< tt) (lit< tt),
  (
    reduced-writes-far 8 3 10 17 (lit≤ tt) (lit≤ tt) (lit< tt) (lit≤ tt),
    (
      reduced-dead 8 3 10 11 103 (lit≤ tt) (lit≤ tt) (lit< tt),
      (
        reduced-writes-near 8 3 254 4 (lit≤ tt) (lit≤ tt) (lit< tt) (lit< tt),
        (
          reduced-writes-far 8 3 254 5 (lit≤ tt) (lit≤ tt) (lit< tt) (lit≤ tt),
          (
            reduced-writes-far 8 8 0 255 (lit≤ tt) (lit≤ tt) (lit< tt) (lit≤ tt),
            (
              refl,
              (
                refl,
                (
                  refl,
                  tt,
                ),
              ),
            ),
          ),
        ),
      ),
    ),
  ),
)
