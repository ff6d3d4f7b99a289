-- Words that are a decoder's are a decoder's after any call on them: a caller that keeps them is never told 90, 91, 92
-- or 11 for them. For a new decoder, the settings and a restored one, decoder_words/proofs/Words.antt says it. Assumes
-- nothing.
use Prim.Native.Nat.{ℕ, zero, suc}
use mathlib.Core.Bool.{Bool, true, false}
use mathlib.Core.List.{List}
use mathlib.Core.Path.{◌≡◌, ap, ◌∙◌}
use lib.ListN.{drop}
use Rattle.tools.specs.Bytes.{Octets}
use Rattle.tag_parse.proofs.Cases.{octets_drop}
use Rattle.decoder_rules.specs.declared.types.Answer.{Answer}
use Rattle.decoder_rules.specs.declared.types.Answer.TheVariants as answer
use Rattle.decoder_rules.specs.declared.types.TagDecoder.{TagDecoder}
use Rattle.many_events.specs.Many.{InARow, on_from, many_calls, one_call, many_events}
use Rattle.stored_decoder.specs.Words.{decoder_words, record_of}
use Rattle.stored_decoder.specs.Check.{check_words}
use Rattle.stored_decoder.proofs.Checks.{record-arrays}
use Rattle.stored_decoder.proofs.Restoring.{accepts, words_accepted}
use Rattle.guarantees.specs.Calls.{decoding, ending, recovering}
use Rattle.restarts.specs.Comparing.{Sound}
use Rattle.restarts.proofs.SeenDecision.{sound_arrays}
use Rattle.restarts.proofs.SoundCalls.{next_sound}
use Rattle.decoder_words.specs.Calls.{decode_words, recover_words}
use Rattle.decoder_words.specs.declared.types.Reply.{Reply}
use Rattle.decoder_words.proofs.Words.{decoding_made, recovery_made}
use Rattle.std.specs.Prelude.{Err, Ok, Result}
use Rattle.decoder_rules.specs.declared.types.Refusal.{Refusal}

-- ---- sound records, and accepted words

-- the record of accepted words is sound
pub accepted_sound : (w : List ℕ) → check_words w ≡ Ok tt → Sound (record_of w)
accepted_sound w c =
    let a = record-arrays w in
    record { masters = a.masters; ends = a.ends; good = (accepts w c).state }

-- and the words of a sound record are accepted
pub sound_accepted : (d : TagDecoder) → Sound d → check_words (decoder_words d) ≡ Ok tt
sound_accepted d k = words_accepted d (sound_arrays d k) k.good

-- ---- calls in a row

module _ (eof : Bool) (es ps : List ℕ) where
  -- one call, at the end of input or before it
  one_sound : (d : TagDecoder) → Sound d → (s : List ℕ) → Octets s → Sound (one_call eof es ps d s).state
  one_sound d k s byte = go eof
    where
      go : (b : Bool) → Sound (one_call b es ps d s).state
      go true = next_sound es ps d k (ending s) byte
      go false = next_sound es ps d k (decoding s) byte

  -- after the answer of a call the record is that call's, or that of the calls after it
  onward_sound : (a : Result Answer Refusal) (n : ℕ) (d : TagDecoder) (others : InARow) → Sound d → Sound others.state → Sound (on_from a n d others).state
  onward_sound (Ok (answer.Event e)) n d others k o = o
  onward_sound (Ok (answer.NeedMore missing)) n d others k o = k
  onward_sound (Ok answer.Finished) n d others k o = k
  onward_sound (Err r) n d others k o = k

  -- so as many calls as there is room for leave a sound record
  pub many_sound : (n : ℕ) (d : TagDecoder) → Sound d → (s : List ℕ) → Octets s → Sound (many_calls (one_call eof es ps) n d s).state
  unfolding many_calls
  many_sound zero d k s byte = k
  many_sound (suc n) d k s byte =
      let x = one_call eof es ps d s in
      let y = one_sound d k s byte in
      onward_sound x.answer x.taken x.state (many_calls (one_call eof es ps) n x.state (drop x.taken s)) y
      (many_sound n x.state y (drop x.taken s) (octets_drop x.taken s byte))

-- ---- the words after a call

module _ (w : List ℕ) (c : check_words w ≡ (Ok tt)) (es ps s : List ℕ) (byte : Octets s) where
  -- after decoding
  pub decoding_accepted : (eof : Bool) (l : List ℕ) → check_words (decode_words eof es ps w s l).1 ≡ Ok tt
  unfolding many_events
  decoding_accepted eof l =
      ap (λ (x : Reply × List ℕ × List ℕ). check_words x.1) (decoding_made w c eof es ps s l)
      ∙ sound_accepted (many_events eof es ps (record_of w) s l).0.state (many_sound eof es ps _ (record_of w) (accepted_sound w c) s byte)

  -- after a recovery
  pub recovery_accepted : check_words (recover_words es ps w s).1 ≡ Ok tt
  recovery_accepted =
      ap (λ (x : Reply × List ℕ). check_words x.1) (recovery_made w c es ps s)
      ∙ sound_accepted _ (next_sound es ps (record_of w) (accepted_sound w c) (recovering s) byte)
