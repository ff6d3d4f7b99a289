-- Calls in a row, turn by turn: what was handed out before a turn, joined to the calls from that turn on, stays the
-- same. Assumes nothing.
use Prim.Native.Nat.{ℕ, suc, ◌+◌, ◌*◌, ◌-◌, ◌/◌, ◌≤◌, ◌<◌}
use mathlib.Core.Bool.{Bool, true, false≢true}
use mathlib.Core.Path.{◌≡◌, refl, sym, ap, ◌∙◌}
use mathlib.Core.List.{List, ◌++◌, flat_map, append_assoc}
use native.Mathlib.Nat.{add-zero, zero-add, div-add-mod'}
use native.Mathlib.Omega.{arith}
use lib.ListN.{length, take, drop, length-append, length-drop, take-append-drop}
use lib.Seq.{sets, sets-eq, take_at, drop-drop, drop-append-add, length-sets, length-take-le}
use Rattle.tag_parse.specs.declared.types.TagValue.{TagValue}
use Rattle.tag_parse.specs.declared.types.TagValue.TheVariants as value
use Rattle.decoder_rules.specs.declared.types.Answer.{Answer}
use Rattle.decoder_rules.specs.declared.types.Answer.TheVariants as answer
use Rattle.decoder_rules.specs.declared.types.Decoded.{Decoded}
use Rattle.decoder_rules.specs.declared.types.Event.{Event}
use Rattle.decoder_rules.specs.declared.types.Event.TheVariants as event
use Rattle.decoder_rules.specs.declared.types.TagDecoder.{TagDecoder}
use Rattle.decoder_rules.proofs.MoveLaws.{is_no_event}
use Rattle.many_events.specs.Events.{event_size, start_words, value_words, event_words}
use Rattle.many_events.specs.Many.{InARow, stopped, then, on_from, many_calls, one_call, ran_of, listed, many_events, stop_of}
use Rattle.many_events.specs.Turns.{joined, ended, Turning}
use Rattle.many_events.specs.declared.types.Ran.{Ran}
use Rattle.many_events.specs.declared.types.Stop.{Stop}
use Rattle.many_events.specs.declared.types.Stop.TheVariants as stop
use Rattle.std.specs.Prelude.{Err, Ok, Result}
use Rattle.decoder_rules.specs.declared.types.Refusal.{Refusal}

-- ---- an event is 8 words

value_length : (x o : ℕ) (v : TagValue) → length (value_words x o v) ≡ event_size
unfolding value_words
value_length x o (value.UnsignedInt n) = refl
value_length x o (value.Integer z) = refl
value_length x o (value.Utf8 r) = refl
value_length x o (value.Binary r) = refl
value_length x o (value.Float b) = refl
value_length x o (value.Raw r) = refl

pub event_length : (d : TagDecoder) (e : Event) → length (event_words d e) ≡ event_size
unfolding event_words start_words
event_length d (event.Start x o) = refl
event_length d (event.End e) = refl
event_length d (event.Data x o v) = value_length x o v

-- ---- what was handed out

-- none before them
pub joined_none : (l : List ℕ) (r : InARow) → joined 0 0 l r ≡ (ran_of r, listed r.events l)
joined_none l r = rw (zero-add (length r.events), zero-add r.taken)

-- none after them
pub joined_stop : (n at : ℕ) (l : List ℕ) (why : Result Stop Refusal) (d : TagDecoder) → joined n at l (stopped why d) ≡ (ended n at why d, l)
unfolding flat_map
joined_stop n at l why d = rw (add-zero n, add-zero at, take-append-drop (event_size * n) l)

-- an event more before them
pub joined_then : (n at : ℕ) (l words : List ℕ) (k : ℕ) (others : InARow) → length words ≡ event_size → event_size * n + event_size ≤ length l
    → joined n at l (then words k others) ≡ joined (n + 1) (at + k) (sets l (event_size * n) words) others
unfolding flat_map
joined_then n at l words k others w h =
    let o = event_size * n in
    let m = length others.events in
    let f = flat_map (λ (x : List ℕ). x) others.events in
    let p = take o l ++ words in
    let lp : length p ≡ o + event_size = length-append (take o l) words ∙ rw (length-take-le o l (omega arith), w) in
    let l' : sets l o words ≡ p ++ drop (o + event_size) l = sets-eq words l o (omega arith) ∙ ap (λ (i : ℕ). p ++ drop (o + i) l) w in
    let front : take (event_size * (n + 1)) (p ++ drop (o + event_size) l) ≡ p = take_at p (drop (o + event_size) l) (event_size * (n + 1)) (omega arith) in
    let past : event_size * (n + 1 + m) ≡ length p + event_size * m = omega arith in
    let there : o + event_size + event_size * m ≡ event_size * (n + suc m) = omega arith in
    let back : drop (event_size * (n + 1 + m)) (p ++ drop (o + event_size) l) ≡ drop (event_size * (n + suc m)) l =
    ap (λ (i : ℕ). drop i (p ++ drop (o + event_size) l)) past ∙ drop-append-add p (drop (o + event_size) l) (event_size * m) ∙ drop-drop (event_size * m) (o + event_size) l
    ∙ ap (λ (i : ℕ). drop i l) there in
    let count : n + suc m ≡ n + 1 + m = omega arith in
    let bytes : at + (k + others.taken) ≡ at + k + others.taken = omega arith in
    let lists : take o l ++ ((words ++ f) ++ drop (event_size * (n + suc m)) l) ≡ take (event_size * (n + 1)) (sets l o words) ++ (f ++ drop (event_size * (n + 1 + m)) (sets l o words)) =
    rw (l', front, back) (ap (λ (x : List ℕ). take o l ++ x) (append_assoc words f _) ∙ sym (append_assoc (take o l) words _)) in
    both (ap (λ (i : ℕ). ended i (at + (k + others.taken)) others.stop others.state) count ∙ ap (λ (i : ℕ). ended (n + 1 + m) i others.stop others.state) bytes) lists
  where
    both : {A B : Type 0} {a a' : A} {b b' : B} → a ≡ a' → b ≡ b' → ◌≡◌ {A = A × B} (a, b) (a', b')
    both e f = rw (e, f)

-- ---- one call more

module _ (call : TagDecoder → List ℕ → Decoded) (k : ℕ) (d : TagDecoder) (s : List ℕ) (r : Decoded) (is : r ≡ call d s) where
  -- an event, and then the others
  pub many_then : (e : Event) → r.answer ≡ Ok (answer.Event e)
      → many_calls call (suc k) d s ≡ then (event_words r.state e) r.taken (many_calls call k r.state (drop r.taken s))
  unfolding many_calls
  many_then e q = rw (← is, q)

  -- any other answer is the last
  pub many_stop : is_no_event r.answer ≡ true → many_calls call (suc k) d s ≡ stopped (stop_of r.answer) r.state
  unfolding many_calls stop_of
  many_stop q = rw (← is) (by r.answer q)
    where
      by : (a : Result Answer Refusal) → is_no_event a ≡ true → on_from a r.taken r.state (many_calls call k r.state (drop r.taken s)) ≡ stopped (stop_of a) r.state
      by (Ok (answer.Event e)) f = absurd (false≢true f)
      by (Ok (answer.NeedMore missing)) f = refl
      by (Ok answer.Finished) f = refl
      by (Err x) f = refl

-- ---- the turns of a loop

-- it holds before the first call
pub first_turn : (eof : Bool) (es ps : List ℕ) (d : TagDecoder) (s l : List ℕ)
    → Turning (one_call eof es ps) s (length l / event_size) (length l) (many_events eof es ps d s l) l d 0 0
unfolding many_events
first_turn eof es ps d s l =
    record {
      within = omega arith;
      few = omega arith;
      holds = let e = div-add-mod' (length l) event_size in omega arith;
      as_long = refl;
      rest = let z : length l / event_size - 0 ≡ length l / event_size = omega arith in rw z (joined_none l (many_calls (one_call eof es ps) (length l / event_size) d s));
    }

module _ {call : TagDecoder → List ℕ → Decoded} {s : List ℕ} {room long : ℕ} {total : Ran × List ℕ} {l : List ℕ} {d : TagDecoder} {n at : ℕ}
    (g : Turning call s room long total l d n at) where
  -- no room is left
  pub full_turn : room ≤ n → (ended n at (Ok stop.Full) d, l) ≡ total
  unfolding many_calls
  full_turn h =
      let z : room - n ≡ 0 = omega arith in
      sym (joined_stop n at l (Ok stop.Full) d) ∙ (rw z at g.rest)

  module _ (h : n < room) (r : Decoded) (is : r ≡ call d (drop at s)) where
    -- there is a turn
    turn : joined n at l (many_calls call (suc (room - (n + 1))) d (drop at s)) ≡ total
    turn = let e : room - n ≡ suc (room - (n + 1)) = omega arith in rw e at g.rest

    -- an answer that is no event
    pub stop_turn : is_no_event r.answer ≡ true → (ended n at (stop_of r.answer) r.state, l) ≡ total
    stop_turn q = sym (ap (joined n at l) (many_stop call (room - (n + 1)) d (drop at s) r is q) ∙ joined_stop n at l (stop_of r.answer) r.state) ∙ turn

    -- an event
    pub event_turn : (e : Event) → r.answer ≡ Ok (answer.Event e) → r.taken ≤ length (drop at s) → {l' : List ℕ} → l' ≡ sets l (event_size * n) (event_words r.state e)
        → Turning call s room long total l' r.state (n + 1) (at + r.taken)
    event_turn e q t {l' = l'} put =
        let w = g.within in
        let b : r.taken ≤ length s - at = rw length-drop at t in
        let f = g.holds in
        let Long-as = g.as_long in
        let words = event_words r.state e in
        record {
          within = omega arith;
          few = omega arith;
          holds = f;
          as_long = ap length put ∙ length-sets l (event_size * n) words ∙ g.as_long;
          rest =
              rw (put, ← drop-drop r.taken at s)
              (sym (joined_then n at l words r.taken _ (event_length r.state e) (omega arith))
              ∙ sym (ap (joined n at l) (many_then call (room - (n + 1)) d (drop at s) r is e q))
              ∙ turn);
        }
