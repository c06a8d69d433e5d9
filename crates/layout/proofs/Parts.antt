-- The laws of the parts of a slim file.
use Rattle.std.proofs.Common.{◌≡◌, ℕ, zero, suc, ◌+◌, ◌-◌, ◌^◌, ◌<◌, Bool, true, false, cond, eqb, ◌⊎◌, List, [], ◌∷◌, length, get_or, Some, None, Option, sym, refl, ap, ◌∙◌, inl, inr, arith, ltb-true, eqb-true}
use Rattle.std.proofs.lemmas.Bool.Decides.{nat_tests}
use Rattle.format.specs.Format.{Format}
use Rattle.format.specs.Lawful.{Lawful}
use Rattle.format.proofs.Laws.{law-whole, law-refuse, law-field, law-then, law-after, law-padding, law-judged, law-choose, law-one, law-each, law-times, law-ahead, then-part, then-rest, whole_is, times-length, times-each, each-length, field-valid, chosen, one-valid, judged-valid, ahead-valid, refused}
use Rattle.forms.specs.Coding.{Sound}
use Rattle.format.proofs.Word.{law-word}
use Rattle.layout.specs.Recording.{Channel, Section, Recording}
use Rattle.layout.specs.Channels.{width, ruled, pile, code_at}
use Rattle.layout.specs.Turns.{no_channel, first, channel_of, Turn, memory_of, raw_bytes, raw_size, words_from}
use Rattle.layout.specs.Slim.{positive, byte, head_of, tail_of, name_bytes, block, extra_bytes, given, is_given, flagged, bit, added, channel, Closing, another, ended, leftovers_of, end_tag, tag, is_tag, leftover, closing, Flags, Piece, recorded, counted, closed, body, piece, Body, piece_of, leading, rest, behind, chain, flag, flag_byte, after_flags, recording, most_sections, most_name}
use Rattle.layout.proofs.Counting.{counted-bytes}

law-byte : Lawful byte
unfolding byte
law-byte = law-field _ _ _

law-name : (k : ℕ) → Lawful (name_bytes k)
unfolding name_bytes
law-name zero =
    law-then _ _ (law-field _ _ _) (λ b. law-whole _)
    (λ b _ p bs u v. eqb-true 0 b (field-valid _ _ _ _ _ u).1)
law-name (suc k) =
    law-then _ _ law-byte (λ b.
    law-choose _ _ _ (law-whole _) (
    law-then _ _ (law-name k) (λ bs. law-whole _)
    (λ cs _ p bs _ v. ap tail_of (whole_is _ p bs v))))
    (λ b _ p bs _ v. chosen _ _ _ p bs _ v
    (λ e u. ap head_of (whole_is _ p bs u) ∙ sym (eqb-true b 0 e))
    (λ e u. ap head_of (whole_is _ _ bs (then-rest _ _ p bs u))))

law-block : (n : ℕ) → Lawful (block n)
unfolding block
law-block n = law-one _ (law-times n _ law-byte)

block-length : (n p : ℕ) (bs : List ℕ) → (block n).Valid p bs → length bs ≡ n
unfolding block
block-length n p bs v = times-length _ _ _ _ (one-valid _ _ _ v)

law-extra : Lawful extra_bytes
unfolding extra_bytes
law-extra =
    law-then _ _ (law-field _ _ _) (λ n.
    law-choose _ _ _ (law-whole _) (law-block n))
    (λ n _ p bs _ v. chosen _ _ _ p bs _ v
    (λ e u. ap length (whole_is _ p bs u) ∙ sym (eqb-true n 0 e))
    (λ e u. block-length n p bs u))

law-flagged : (b : Bool) (F : Format (List ℕ)) → Lawful F → Lawful (flagged b F)
unfolding flagged
law-flagged true F L = law-then _ _ L (λ bs. law-whole _) (λ bs _ p o _ v. ap given (whole_is _ p o v))
law-flagged false F L = law-whole _

flagged-is : (b : Bool) (F : Format (List ℕ)) (p : ℕ) (o : Option (List ℕ)) → (flagged b F).Valid p o → is_given o ≡ b
unfolding flagged
flagged-is true F p o v = ap is_given (whole_is _ _ o (then-rest _ _ p o v))
flagged-is false F p o v = ap is_given (whole_is _ p o v)

-- what the description adds keeps what came before
added_is : (n d b a t p : ℕ) (c : Channel) → (added n d b a t).Valid p c →
    (c.repeats ≡ n) × (c.delta ≡ eqb d 1) × (c.turn ≡ b) × (c.algorithm ≡ a) × (c.kind ≡ t)
unfolding added
added_is n d b a t p c v = chosen _ _ _ p c _ v
    (λ e u. parts _ _ (whole_is _ _ c (then-rest _ _ _ c (then-rest _ _ p c u))))
    (λ e u. chosen _ _ _ p c _ u
    (λ e w. parts _ _ (whole_is _ _ c (then-rest _ _ p c w)))
    (λ e w. parts _ _ (whole_is _ p c w)))
  where
    parts : (v r : ℕ) → c ≡ record { repeats = n; delta = eqb d 1; turn = b; algorithm = a; kind = t; narrow = r; value = v } →
        (c.repeats ≡ n) × (c.delta ≡ eqb d 1) × (c.turn ≡ b) × (c.algorithm ≡ a) × (c.kind ≡ t)
    parts v r e = (ap (λ c. c.repeats) e, ap (λ c. c.delta) e, ap (λ c. c.turn) e, ap (λ c. c.algorithm) e, ap (λ c. c.kind) e)

-- a bit that is a flag
bit_is : (d : ℕ) (x : Bool) → d < 2 ^ 1 → x ≡ eqb d 1 → bit x ≡ d
bit_is d x h e = grind (arith, nat_tests)

law-added : (n d b a t : ℕ) → Lawful (added n d b a t)
unfolding added
law-added n d b a t =
    law-choose _ _ _
    (law-then _ _ (law-field _ _ _) (λ v.
    law-then _ _ (law-field _ _ _) (λ r.
    law-whole _)
    (λ r _ p c _ w. ap (λ c. c.narrow - 1) (whole_is _ p c w) ∙ omega arith))
    (λ v _ p c _ w. ap (λ c. c.value) (whole_is _ _ c (then-rest _ _ p c w))))
    (law-choose _ _ _
    (law-then _ _ (law-field _ _ _) (λ v. law-whole _) (λ v _ p c _ w. ap (λ c. c.value) (whole_is _ p c w)))
    (law-whole _))

law-channel : (recorded : Bool) → Lawful (channel recorded)
unfolding channel
law-channel recorded = law-judged _ _ _ (
    law-then _ _ (law-choose _ _ _ (law-field _ _ _) (law-whole _)) (λ n.
    law-then _ _ (law-field _ _ _) (λ d.
    law-then _ _ (law-field _ _ _) (λ b.
    law-then _ _ (law-field _ _ _) (λ a.
    law-then _ _ (law-field _ _ _) (λ t.
    law-added n d b a t)
    (λ t _ p c _ v. (added_is _ _ _ _ _ p c v).4))
    (λ a _ p c _ v. (added_is _ _ _ _ _ _ c (then-rest _ _ p c v)).3))
    (λ b _ p c _ v. (added_is _ _ _ _ _ _ c (then-rest _ _ _ c (then-rest _ _ p c v))).2))
    (λ d _ p c u v. bit_is d c.delta (field-valid _ _ _ _ _ u).0 (added_is _ _ _ _ _ _ c (then-rest _ _ _ c (then-rest _ _ _ c (then-rest _ _ p c v)))).1))
    (λ n _ p c _ v. (added_is _ _ _ _ _ _ c (then-rest _ _ _ c (then-rest _ _ _ c (then-rest _ _ _ c (then-rest _ _ p c v))))).0))

law-leftover : Lawful leftover
unfolding leftover
law-leftover =
    law-then _ _ (law-field _ _ _) (λ n.
    law-then _ _ (law-block n) (λ ls.
    law-whole _)
    (λ ls _ p c _ v. ap leftovers_of (whole_is _ p c v)))
    (λ n _ p c _ v. block-length _ _ _ (then-part _ _ p c v))

tag-some : (ls : List ℕ) → positive (length ls) ≡ true → end_tag ls ≡ 14
tag-some [] h = absurd (omega (arith, ltb-true 0 0 h))
tag-some (b ∷ ls) h = refl

leftover-tag : (p : ℕ) (c : Closing) → leftover.Valid p c → tag c ≡ 14
unfolding leftover
leftover-tag p c v =
    ap tag (whole_is _ _ c (then-rest _ _ _ c (then-rest _ _ p c v))) ∙ tag-some (leftovers_of c) (field-valid _ _ _ _ _ (then-part _ _ p c v)).1

fourteen : (t : ℕ) → eqb t 8 ≡ false → eqb t 15 ≡ false → is_tag t ≡ true → t ≡ 14
fourteen t e d i = grind (arith, nat_tests)

law-closing : Lawful closing
unfolding closing
law-closing =
    law-then _ _ (law-field _ _ _) (λ t.
    law-choose _ _ _ (law-whole _) (law-choose _ _ _ (law-whole _) law-leftover))
    (λ t _ p c u v. chosen _ _ _ p c _ v
    (λ e w. ap tag (whole_is _ p c w) ∙ sym (eqb-true t 8 e))
    (λ e w. chosen _ _ _ p c _ w
    (λ d x. ap tag (whole_is _ p c x) ∙ sym (eqb-true t 15 d))
    (λ d x. leftover-tag p c x ∙ sym (fourteen t e d (field-valid _ _ _ _ _ u).1))))

-- the rest rests on the rules of each channel's coder: one that is there keeps the rules of settings
abbrev pub SoundPile : Channel → Type 0
SoundPile c = Sound (width c.kind) (pile c)

abbrev pub Ruled : Channel → Type 0
Ruled c = (c ≡ no_channel) ⊎ (ruled c ≡ true)

channel-ruled : (r : Bool) (p : ℕ) (c : Channel) → (channel r).Valid p c → Ruled c
unfolding channel
channel-ruled r p c v = inr (judged-valid _ _ _ p c v).1

module _ (sound : (c : Channel) → Ruled c → SoundPile c) where
  law-words : (cs : List Channel) (n : ℕ) (t : Turn) → ((i : ℕ) → Ruled (get_or cs i no_channel)) → Lawful (words_from cs n t)
  unfolding words_from
  law-words cs n t h = law-each _ _ (λ u. law-word (code_at (channel_of cs u.spot) (memory_of u)) (sound (channel_of cs u.spot) (h u.spot.channel) (memory_of u, tt))) n t

  law-closed : (room : Bool) (cs : List Channel) (n : ℕ) → ((i : ℕ) → Ruled (get_or cs i no_channel)) → Lawful (closed room cs n)
  unfolding closed
  law-closed room cs n h =
      law-then _ _ (law-words cs n _ h) (λ ws.
      law-then _ _ (law-judged _ _ _ law-closing) (λ e.
      law-then _ _ law-padding (λ _.
      law-whole _)
      (λ _ _ p x _ v. refl))
      (λ e _ p x _ v. ap (λ x. x.closing) (whole_is _ _ x (then-rest _ _ p x v))))
      (λ ws _ p x _ v. ap (λ x. x.section.words) (whole_is _ _ x (then-rest _ _ _ x (then-rest _ _ p x v))))

  closed_is : (room : Bool) (cs : List Channel) (n p : ℕ) (x : Piece) → (closed room cs n).Valid p x → (x.section.channels ≡ cs) × (length x.section.words ≡ n)
  unfolding closed words_from
  closed_is room cs n p x v =
      (ap (λ x. x.section.channels) (whole_is _ _ x (then-rest _ _ _ x (then-rest _ _ _ x (then-rest _ _ p x v)))), each-length _ _ _ _ _ _ (then-part _ _ p x v))

  law-counted : (o : Option ℕ) (F : ℕ → Format Piece) → ((n : ℕ) → Lawful (F n)) → Lawful (counted o F)
  unfolding counted
  law-counted None F L = law-refuse 13
  law-counted (Some n) F L = L n

  counted_is : (o : Option ℕ) (F : ℕ → Format Piece) (p : ℕ) (x : Piece) → (counted o F).Valid p x → (n : ℕ) × (o ≡ Some n) × (F n).Valid p x
  unfolding counted
  counted_is None F p x v = absurd (refused _ _ _ v)
  counted_is (Some n) F p x v = (n, refl, v)

  law-body : (g : Flags) (room : Bool) (raw : ℕ) → Lawful (body g room raw)
  unfolding body
  law-body g room raw =
      law-then _ _ (law-choose _ _ _ (law-whole _) (law-field _ _ _)) (λ c.
      law-after _ _ (law-times c _ (law-channel _)) (λ cs p v.
      law-counted _ _ (λ n. law-closed room cs n (λ i. times-each Ruled c _ (channel-ruled _) p cs v i no_channel (inl refl))))
      (λ cs _ p x _ v. let (n, _, u) = counted_is _ _ p x v in (closed_is room cs n p x u).0))
      (λ c _ p x _ v. times-length _ _ _ _ (then-part _ _ p x v))

  body-raw : (g : Flags) (room : Bool) (raw p : ℕ) (x : Piece) → (body g room raw).Valid p x → raw_size x.section ≡ raw
  unfolding body
  body-raw g room raw p x v =
      let (n, e, u) = counted_is _ _ _ x (then-rest _ _ _ x (then-rest _ _ p x v)) in
      ap (raw_bytes x.section.channels first) (closed_is room _ n _ x u).1 ∙ counted-bytes x.section.channels first raw raw n e

  law-piece : (g : Flags) (room : Bool) (total : ℕ) → Lawful (piece g room total)
  unfolding piece
  law-piece g room total =
      law-then _ _ (law-judged _ _ _ (law-field _ _ _)) (λ raw.
      law-choose _ _ _ (law-ahead _ _ _ _ (law-body g room raw)) (law-body g room raw))
      (λ raw _ p x _ v. chosen _ _ _ p x _ v
      (λ e u. body-raw g room raw _ x (ahead-valid _ _ _ _ p x u))
      (λ e u. body-raw g room raw _ x u))

  law-behind : (F : Format Body) (s : Section) (e : Closing) → Lawful F → Lawful (behind F s e)
  unfolding behind
  law-behind F s another L = law-then _ _ L (λ b. law-whole _) (λ b _ p x _ v. ap rest (whole_is _ p x v))
  law-behind F s (ended ls) L = law-whole _

  -- something follows a section that another follows
  chain-some : (g : Flags) (k total p : ℕ) (b : Body) → (chain g k total).Valid p b → (s : Section) × (ss : List Section) × (b.sections ≡ s ∷ ss)
  unfolding chain behind
  chain-some g zero total p b v = absurd (refused _ _ _ v)
  chain-some g (suc k) total p b v = behind-some _ _ _ _ b (then-rest _ _ p b v)
    where
      behind-some : (F : Format Body) (s : Section) (e : Closing) (p : ℕ) (x : Body) → (behind F s e).Valid p x → (s : Section) × (ss : List Section) × (x.sections ≡ s ∷ ss)
      behind-some F s another p x v = (s, _, ap (λ b. b.sections) (whole_is _ _ x (then-rest _ _ p x v)))
      behind-some F s (ended ls) p x v = (s, [], ap (λ b. b.sections) (whole_is _ p x v))

  leading-more : (b : Body) (s : Section) (rs : List Section) (ls : List ℕ) → b ≡ record { sections = s ∷ rs; leftovers = ls } → ((t : Section) × (ss : List Section) × (rs ≡ t ∷ ss)) → leading b ≡ record { section = s; closing = another }
  leading-more b s rs ls e (t, ss, d) = ap leading e ∙ ap (λ z. piece_of (s ∷ z) ls) d

  behind-is : (g : Flags) (k total : ℕ) (s : Section) (e : Closing) (p : ℕ) (x : Body) → (behind (chain g k total) s e).Valid p x → leading x ≡ record { section = s; closing = e }
  unfolding behind
  behind-is g k total s another p x v = leading-more x s _ _ (whole_is _ _ x (then-rest _ _ p x v)) (chain-some g k total _ (rest x) (then-part _ _ p x v))
  behind-is g k total s (ended ls) p x v = ap leading (whole_is _ p x v)

  law-chain : (g : Flags) (k total : ℕ) → Lawful (chain g k total)
  unfolding chain
  law-chain g zero total = law-refuse 9
  law-chain g (suc k) total =
      law-then _ _ (law-piece g _ total) (λ x.
      law-behind _ _ _ (law-chain g k _))
      (λ c _ p x _ v. behind-is g k _ _ _ p x v)

  same_body : (b : Body) (r : Recording) → r.sections ≡ b.sections → r.leftovers ≡ b.leftovers → record { sections = r.sections; leftovers = r.leftovers } ≡ b
  same_body b r d e = λ i. record { sections = d i; leftovers = e i }

  law-after-flags : (s g : ℕ) → Lawful (after_flags s g)
  unfolding after_flags
  law-after-flags s g =
      law-then _ _ (law-flagged _ _ (law-name most_name)) (λ n.
      law-then _ _ (law-flagged _ _ law-extra) (λ x.
      law-then _ _ (law-chain _ most_sections 0) (λ b.
      law-whole _)
      (λ b _ p r _ v. let e = whole_is _ p r v in same_body b r (ap (λ r. r.sections) e) (ap (λ r. r.leftovers) e)))
      (λ x _ p r _ v. ap (λ r. r.extra) (whole_is _ _ r (then-rest _ _ p r v))))
      (λ n _ p r _ v. ap (λ r. r.name) (whole_is _ _ r (then-rest _ _ _ r (then-rest _ _ p r v))))

  flags-are : (g : ℕ) → g < 64 →
      cond (flag 0 g) 1 0 + (cond (flag 1 g) 2 0 + (cond (flag 2 g) 4 0 + (cond (flag 3 g) 8 0 + (cond (flag 4 g) 16 0 + cond (flag 5 g) 32 0)))) ≡ g
  flags-are g h = grind (arith, nat_tests)

  after_is : (s g p : ℕ) (r : Recording) → (after_flags s g).Valid p r → (r.stamp ≡ s) × (flag_byte r ≡
      cond (flag 0 g) 1 0 + (cond (flag 1 g) 2 0 + (cond (flag 2 g) 4 0 + (cond (flag 3 g) 8 0 + (cond (flag 4 g) 16 0 + cond (flag 5 g) 32 0)))))
  unfolding after_flags
  after_is s g p r v =
      let n = flagged-is _ _ _ _ (then-part _ _ p r v) in
      let v₁ = then-rest _ _ p r v in
      let x = flagged-is _ _ _ _ (then-part _ _ _ r v₁) in
      let e = whole_is _ _ r (then-rest _ _ _ r (then-rest _ _ _ r v₁)) in
      (ap (λ r. r.stamp) e, joined (ap (λ r. r.sized) e) n x (ap (λ r. r.pointed) e) (ap (λ r. r.single) e) (ap (λ r. r.unrepeated) e))
    where
      joined : {a b c d e f : Bool} → r.sized ≡ a → is_given r.name ≡ b → is_given r.extra ≡ c → r.pointed ≡ d → r.single ≡ e → r.unrepeated ≡ f →
          flag_byte r ≡ cond a 1 0 + (cond b 2 0 + (cond c 4 0 + (cond d 8 0 + (cond e 16 0 + cond f 32 0))))
      joined a b c d e f = rw (a, b, c, d, e, f)

  pub law-recording : Lawful recording
  unfolding recording
  law-recording =
      law-then _ _ (law-field _ _ _) (λ _.
      law-then _ _ (law-field _ _ _) (λ s.
      law-then _ _ (law-field _ _ _) (λ g.
      law-choose _ _ _ (law-ahead _ _ _ _ (law-after-flags s g)) (law-after-flags s g))
      (λ g _ p r u v. chosen _ _ _ p r _ v
      (λ e w. (after_is _ g _ r (ahead-valid _ _ _ _ p r w)).1 ∙ flags-are g (ltb-true g 64 (field-valid _ _ _ _ _ u).1))
      (λ e w. (after_is _ g _ r w).1 ∙ flags-are g (ltb-true g 64 (field-valid _ _ _ _ _ u).1))))
      (λ s _ p r _ v. chosen _ _ _ _ r _ (then-rest _ _ p r v)
      (λ e w. (after_is s _ _ r (ahead-valid _ _ _ _ _ r w)).0)
      (λ e w. (after_is s _ _ r w).0)))
      (λ m _ p r u v. eqb-true 0x4c53 m (field-valid _ _ _ _ _ u).1)
