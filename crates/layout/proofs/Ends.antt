-- The layout of a recording is of whole bytes.
use Rattle.std.proofs.Common.{ℕ, zero, suc, Bool, List, Some, None, Option}
use Rattle.format.specs.Format.{Format}
use Rattle.format.proofs.Laws.{Ends, Keeps, ends-then, ends-first, ends_last, ends-padded, ends-refuse, ends-ahead, ends-choose, keeps-whole}
use Rattle.layout.specs.Recording.{Section}
use Rattle.layout.specs.Slim.{Closing, another, ended, Flags, Piece, counted, closed, body, piece, Body, behind, chain, most_sections, after_flags, recording}
use Rattle.layout.specs.Recording.{Channel}

ends-closed : (room : Bool) (cs : List Channel) (n : ℕ) → Ends (closed room cs n)
unfolding closed
ends-closed room cs n = ends-then _ _ (λ ws. ends-then _ _ (λ e. ends-padded _ _))

ends-counted : (o : Option ℕ) (F : ℕ → Format Piece) → ((n : ℕ) → Ends (F n)) → Ends (counted o F)
unfolding counted
ends-counted None F E = ends-refuse 13
ends-counted (Some n) F E = E n

ends-body : (g : Flags) (room : Bool) (raw : ℕ) → Ends (body g room raw)
unfolding body
ends-body g room raw = ends-then _ _ (λ c. ends-then _ _ (λ cs. ends-counted _ _ (λ n. ends-closed room cs n)))

ends-piece : (g : Flags) (room : Bool) (total : ℕ) → Ends (piece g room total)
unfolding piece
ends-piece g room total = ends-then _ _ (λ raw. ends-choose _ _ _ (ends-ahead _ _ _ _ (ends-body g room raw)) (ends-body g room raw))

keeps-behind : (F : Format Body) (s : Section) (e : Closing) → Ends F → Keeps (behind F s e)
unfolding behind
keeps-behind F s another E = λ p x h v. ends_last _ _ E p x v
keeps-behind F s (ended ls) E = keeps-whole _

ends-chain : (g : Flags) (k total : ℕ) → Ends (chain g k total)
unfolding chain
ends-chain g zero total = ends-refuse 9
ends-chain g (suc k) total = ends-first _ _ (ends-piece g _ total) (λ c. keeps-behind _ _ _ (ends-chain g k _))

ends-after : (s g : ℕ) → Ends (after_flags s g)
unfolding after_flags
ends-after s g = ends-then _ _ (λ n. ends-then _ _ (λ x. ends_last _ _ (ends-chain _ most_sections 0)))

pub ends-recording : Ends recording
unfolding recording
ends-recording = ends-then _ _ (λ _. ends-then _ _ (λ s. ends-then _ _ (λ g. ends-choose _ _ _ (ends-ahead _ _ _ _ (ends-after s g)) (ends-after s g))))
