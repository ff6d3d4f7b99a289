-- Calls of `decode` one after the other, by the events that they answer, with the number of masters that are open for
-- the reader: those whose Start was answered and whose End was not. Assumes nothing.
use Prim.Native.Nat.{ℕ, suc, ◌<◌}
use mathlib.Core.Path.{◌≡◌, refl, ap}
use mathlib.Core.Bool.{true}
use mathlib.Core.List.{List, [], ◌∷◌, ◌++◌, map}
use lib.ListN.{length, drop, get_or}
use Rattle.spec_util.specs.Walk.{most_open, no_tag}
use Rattle.tag_parse.specs.declared.types.TagValue.{TagValue}
use Rattle.decoder_rules.specs.Moving.{gives, decode}
use Rattle.decoder_rules.specs.Run.{Told, event, need_more, Call, Calls, in_a_row, decode_calls}
use Rattle.decoder_rules.specs.declared.types.Answer.TheVariants as answer
use Rattle.decoder_rules.specs.declared.types.Event.{Event}
use Rattle.decoder_rules.specs.declared.types.Event.TheVariants as handed
use Rattle.decoder_rules.specs.declared.types.TagDecoder.{TagDecoder}
use Rattle.decoder_rules.specs.declared.types.WaitingEnd.{WaitingEnd}
use Rattle.std.specs.Prelude.{Ok}

-- the innermost of the record's open masters has a known size, and stands on k others
pub record TopKnown (k : ℕ) (d : TagDecoder) : Type 0 where
  pub count : d.open_count ≡ suc k
  pub few : k < most_open
  pub known : (get_or d.«open» k no_tag).known ≡ true

-- what the record d shows after an event, with so many masters open before it and so many after it: a Start's master
-- stands on the others, and after a value they are all on the stack; after an End others may wait for theirs
pub data Shows : ℕ → Event → ℕ → TagDecoder → Type 0 where
  started : {k x o : ℕ} {d : TagDecoder} → TopKnown k d → Shows k (handed.Start x o) (suc k) d
  ended : {k : ℕ} {e : WaitingEnd} {d : TagDecoder} → Shows (suc k) (handed.End e) k d
  held : {k x o : ℕ} {v : TagValue} {d : TagDecoder} → d.open_count ≡ k → Shows k (handed.Data x o v) k d

-- calls of `decode` from a record on some bytes, each lent what is left, answer these events one by one, and leave that
-- record and those bytes; before a record stands how many masters are open there
pub data Tells (es ps : List ℕ) : List Event → ℕ → TagDecoder → List ℕ → ℕ → TagDecoder → List ℕ → Type 0 where
  nothing : {k : ℕ} {d : TagDecoder} {s : List ℕ} → Tells es ps [] k d s k d s
  next : {i j k : ℕ} {e : Event} {evs : List Event} {n : ℕ} {d d1 d2 : TagDecoder} {s rest : List ℕ}
      → decode es ps d s ≡ gives (Ok (answer.Event e)) n d1 → Shows i e j d1 → Tells es ps evs j d1 (drop n s) k d2 rest → Tells es ps (e ∷ evs) i d s k d2 rest

-- one run of calls after the other
pub tells_more : {es ps : List ℕ} {i j k : ℕ} {evs more : List Event} {d d' d'' : TagDecoder} {s s' s'' : List ℕ}
    → Tells es ps evs i d s j d' s' → Tells es ps more j d' s' k d'' s'' → Tells es ps (evs ++ more) i d s k d'' s''
tells_more nothing b = b
tells_more (next c h a) b = next c h (tells_more a b)

-- one call before others
pub tells_step : {es ps : List ℕ} {i j k : ℕ} {e : Event} {evs : List Event} {n : ℕ} {d d1 d2 : TagDecoder} {s s1 rest : List ℕ}
    → decode es ps d s ≡ gives (Ok (answer.Event e)) n d1 → Shows i e j d1 → drop n s ≡ s1 → Tells es ps evs j d1 s1 k d2 rest → Tells es ps (e ∷ evs) i d s k d2 rest
tells_step {es} {ps} {i} {j} {k} {evs} {n} {d1} {d2} {s} {s1} {rest} c h q a = let b : Tells es ps evs j d1 (drop n s) k d2 rest = rw q a in next c h b

-- these calls answer these events and then need m bytes more, and leave this record and these bytes
pub record Answers (c : Calls) (evs : List Event) (m : ℕ) (d : TagDecoder) (rest : List ℕ) : Type 0 where
  pub told : map (λ (k : Call). k.told) c.calls ≡ map event evs ++ (need_more m ∷ [])
  pub left : c.left ≡ d
  pub rest_is : c.rest ≡ rest

-- so a run of calls goes, where the call after the events needs more
pub tells_calls : {es ps : List ℕ} {evs : List Event} {d d' : TagDecoder} {s s' : List ℕ} {i k m : ℕ} → Tells es ps evs i d s k d' s'
    → decode es ps d' s' ≡ gives (Ok (answer.NeedMore m)) 0 d' → Answers (decode_calls (suc (length evs)) es ps d s) evs m d' s'
unfolding in_a_row
tells_calls nothing e = rw e (record { told = refl; left = refl; rest_is = refl })
tells_calls (next {e = x} c h a) e =
    let r = tells_calls a e in
    rw c (record { told = ap (λ (l : List Told). event x ∷ l) r.told; left = r.left; rest_is = r.rest_is })
