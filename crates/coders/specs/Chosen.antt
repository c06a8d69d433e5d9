-- The coder that was chosen: one of three.
use Rattle.std.specs.Prelude.{ℕ, ◌<◌, ◌≤◌}
use Rattle.forms.specs.Coding.{Coding, Sound}
use Rattle.forms.specs.Coders.{plain, null, constant, reduced}
use Rattle.forms.proofs.Coders.{null-rules, constant-rules, reduced-rules}
use Rattle.coders.specs.declared.kinds.Algorithm.{Algorithm}
use Rattle.coders.specs.declared.kinds.Algorithm.TheVariants.{Null, Constant, Reduced}

abbrev pub coding_of : (W : ℕ) → Algorithm W → Coding (Unit {0})
coding_of W (Null c) = plain (null W)
coding_of W (Constant c) = plain (constant c.word)
coding_of W (Reduced c) = plain (reduced W c.narrow c.pedestal)

pub sound_of : (W : ℕ) (c : Algorithm W) → Sound W (coding_of W c)
sound_of W (Null c) m = null-rules W c.width.1
sound_of W (Constant c) m = constant-rules W c.word c.small
sound_of W (Reduced c) m = reduced-rules W c.narrow c.pedestal c.most c.width.1

pub fits_of : (W : ℕ) → Algorithm W → (0 < W) × (W ≤ 32)
fits_of W (Null c) = c.width
fits_of W (Constant c) = c.width
fits_of W (Reduced c) = c.width
