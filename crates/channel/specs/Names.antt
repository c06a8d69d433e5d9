-- What the numbers in a channel's settings name.
use Rattle.std.specs.Prelude.{ℕ, cond, ◌||◌, Ok, Err, Result, ◌==◌}
use Rattle.channel.specs.declared.names.Method.{Method}
use Rattle.channel.specs.declared.names.Method.TheVariants.{Null, Reduced, Constant}
use Rattle.channel.specs.declared.names.WordSize.{WordSize}
use Rattle.channel.specs.declared.names.WordSize.TheVariants.{Byte, Half, Full}
use Rattle.channel.specs.declared.names.Unnamed.{Unnamed}

abbrev pub method_named : ℕ → Result Method Unnamed
method_named n = cond (n == 0) (Ok Null) (cond (n == 1) (Ok Reduced) (cond (n == 6) (Ok Constant) (Err (record { 0 = n }))))

-- the size of a type's words
abbrev pub size_named : ℕ → Result WordSize Unnamed
size_named t = cond (t == 1 || (t == 2 || t == 5)) (Ok Full) (cond (t == 3 || t == 4) (Ok Half) (cond (t == 7 || t == 8) (Ok Byte) (Err (record { 0 = t }))))

abbrev pub size_bits : WordSize → ℕ
size_bits Byte = 8
size_bits Half = 16
size_bits Full = 32
