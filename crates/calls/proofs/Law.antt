-- The law over runs.
use Rattle.std.proofs.Common.{◌≡◌, ℕ, List, [], ◌∷◌, ◌++◌, length, Some, None, Err, Option, sym, refl, ap, subst, arith}
use Rattle.bits.specs.Bits.{Bytes}
use Rattle.layout.specs.Slim.{another, ended}
use Rattle.channel.specs.declared.record.Channel.{Channel}
use Rattle.state.specs.declared.Spot.{Spot}
use Rattle.calls.specs.Calls as calls
use Rattle.calls.specs.Calls.{Trouble, answer, unless, head, begun, begin_fault, section, open_spot, next_row, coded, form_in, putting, closed_edge, more_fault, last_fault, void_fault, fill_puts, later_fault, cut_short, settings, earlier, last_result, last_bytes}
use Rattle.calls.specs.Runs as runs
use Rattle.calls.specs.Runs.{Call, Notebook, Writer, between, inside, Refusal, no_open, no_fill, no_put, no_more, no_void, no_last, Ran, opened, put, closed, voided, lasted, filled, elsewhere, ending, noted, fed, after_last, RunsAreRecorded, EndsRecorded}
use Rattle.calls.proofs.Keeping.{Kept, kept_begin, kept_open, kept_put, kept_more, kept_void}
use Rattle.calls.proofs.Ending.{kept-last}
use Rattle.calls.proofs.Fills.{kept-fill}

as_was : {S A : Type 0} (o : Option Trouble) (a : A) (s : S) (f : S × Trouble) → answer o a (λ (k : Trouble). (s, k)) ≡ Err f → f.0 ≡ s
as_was None a s f p = let z : ◌≡◌ {A = ℕ} 0 1 = cc in absurd (omega arith)
as_was {S = S} (Some h) a s f p = let q : ◌≡◌ {A = S × Trouble} f (s, h) = cc in ap (λ (x : S × Trouble). x.0) q

put_as_was : (o : Option Trouble) (n : ℕ) (s r : Spot) (f : Trouble) → answer {A = ℕ} o n (λ (k : Trouble). k) ≡ Err f → unless o s r ≡ s
put_as_was None n s r f p = let z : ◌≡◌ {A = ℕ} 0 1 = cc in absurd (omega arith)
put_as_was (Some h) n s r f p = refl

-- a refused call leaves the writer as it was
stays : {w v : Writer} {c : Call} → Refusal w c v → v ≡ w
stays (no_open e b t f p) = ap between (as_was (calls.opening e b t) (open_spot e (section e t) (length t)) e f p)
stays (no_fill e b t raw f p) = ap between (as_was (earlier (calls.opening e b t) (later_fault (fill_puts e b t raw) (cut_short (settings t) raw))) ((fill_puts e b t raw).sum, (fill_puts e b t raw).spot) e f p)
stays (no_put s b t w f p) = ap inside (put_as_was (putting s b t w) (length (form_in (coded (next_row s t) w))) s _ f p)
stays (no_more s b t f p) = ap inside (as_was (more_fault s (calls.closing s another) (length b) (length t)) (closed_edge s (calls.closing s another)) s f p)
stays (no_void s b t f p) = ap inside (as_was (void_fault s (length b) (length t)) s.edge s f p)
stays (no_last s b t ls f p) = ap inside (as_was (last_fault s ls (calls.closing s (ended ls)) (length b) (length t)) (calls.behind s (calls.closing s (ended ls))) s f p)

pub kept : {cs : List Call} {nb : Notebook} {w : Writer} {b : List ℕ} {t : List Channel} → Ran cs nb w b t → Kept nb w b t
kept (runs.begun stamp g name extra b t e s n x p) = kept_begin stamp g name extra b e (head stamp g name extra) (begin_fault name extra (head stamp g name extra) (length b)) refl refl s n x p
kept (opened {nb = nb} {e = e} {b = b} r u) = kept_open nb e b u (calls.opening e b u) refl (kept r)
kept (put {nb = nb} {s = s} {b = b} {t = t} r w) = kept_put nb s b t w (putting s b t w) refl (kept r)
kept (closed {nb = nb} {s = s} {b = b} {t = t} r) = kept_more nb s b t (more_fault s (calls.closing s another) (length b) (length t)) refl (kept r)
kept (voided {nb = nb} {s = s} {b = b} {t = t} r) = kept_void nb s b t (void_fault s (length b) (length t)) refl (kept r)
kept (lasted {nb = nb} {s = s} {b = b} {t = t} r ls y) = kept-last nb s b t ls (last_fault s ls (calls.closing s (ended ls)) (length b) (length t)) refl y (kept r)
kept (filled {nb = nb} {e = e} {b = b} r u raw y) = kept-fill nb e b u raw (calls.opening e b u) refl (kept r) (fill_puts e b u raw) refl
kept (elsewhere {nb = nb} {w = w} {b = b} {t = t} r c v f) = subst (λ (x : Writer). Kept nb x b t) (sym (stays f)) (kept r)

pub runs_are_recorded : RunsAreRecorded
runs_are_recorded cs nb n b t r = kept r

pub ends_recorded : (s : Spot) (b : List ℕ) (t : List Channel) (ls : List ℕ) → Bytes ls → EndsRecorded s b t ls (last_result s b t ls) (last_bytes s b t ls)
ends_recorded s b t ls y cs nb n r e =
    let q : Ran (cs ++ ending ls ∷ []) (fed (last_result s b t ls) nb (ending ls)) (after_last (last_result s b t ls)) (last_bytes s b t ls) t = lasted r ls y in
    runs_are_recorded (cs ++ ending ls ∷ []) (noted nb (ending ls)) n (last_bytes s b t ls) t
    (subst (λ z. Ran (cs ++ ending ls ∷ []) (fed z nb (ending ls)) (after_last z) (last_bytes s b t ls) t) e q)
