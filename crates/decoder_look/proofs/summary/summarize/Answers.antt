-- `decoder_look::summary::summarize`. The invariant: from place i on the masters are found and written. Assumes
-- nothing.
use Prim.Native.Nat.{◌-◌, min, ◌≤◌, ◌<◌}
use mathlib.Core.Path.{◌≡◌, refl, sym, ◌∙◌}
use mathlib.Core.Bool.{false}
use native.Mathlib.Omega.{arith}
use lib.ListN.{length, length-set, length-take, get_or, take}
use lib.Seq.{get_or-take}
use Rattle.spec_util.specs.Walk.{no_tag}
use Rattle.decoder_look.specs.Summary.{good_state_with}
use Rattle.basics.proofs.ArrayOf32.{length_of_map}
use Rattle.decoder_look.proofs.OnePass.{found_none, found_next, found_sound, found_done, found_least, written_none, written_next, kept_next, written_all}
use Rattle.decoder_look.proofs.summary.summarize.Goals as goal

pub loop-i-init : goal.loop-i-init
loop-i-init c =
    let many : length (take c.args.d.open_count c.args.d.«open») ≡ min c.args.d.open_count 32 =
    let h : length c.args.d.«open» ≡ 32 = search length_of_map in
    length-take c.args.d.open_count c.args.d.«open» ∙ rw h in
    let d = c.args.d in
    let l = take d.open_count d.«open» in
    let n = c.at_most_32-first_full.result in
    let e : n ≡ length l = c.at_most_32-first_full.ensures ∙ sym many in
    let short : length l ≤ 32 = omega (arith, many) in
    record {
      within = omega (arith, e);
      short = short;
      ids_long = c.requires.0;
      knowns_long = c.requires.1;
      ids_kept = λ j h. refl;
      knowns_kept = λ j h. refl;
      found = found_none d.position l n e;
      ids_written = written_none (λ m. m.id) 0 l c.args.ids.now n e;
      knowns_written = written_none (λ m. m.known) false l c.args.knowns.now n e;
    }

pub loop-i-preserved : goal.loop-i-preserved
loop-i-preserved c =
    let a = c.args in
    let d = a.d in
    let l = take c.args.d.open_count c.args.d.«open» in
    let v = c.loop-i.invariant in
    let i = c.loop-i.i in
    let k : 0 < i = c.loop-i-test.true in
    let w = v.within in
    let s = v.short in
    let ids-many = v.ids_long in
    let knowns-many = v.knowns_long in
    let q : i ≤ c.args.d.open_count = omega (arith, length-take c.args.d.open_count c.args.d.«open») in
    let m = get_or c.args.d.«open» (i - 1) no_tag in
    let e : m ≡ get_or l (i - 1) no_tag = sym (get_or-take c.args.d.open_count c.args.d.«open» (i - 1) no_tag (omega arith)) in
    record {
      within = omega arith;
      short = s;
      ids_long = length-set c.loop-i.ids _ _ ∙ ids-many;
      knowns_long = length-set c.loop-i.knowns _ _ ∙ knowns-many;
      ids_kept = kept_next (λ m. m.id) 0 l a.ids.now c.loop-i.ids k w _ v.ids_kept;
      knowns_kept = kept_next (λ m. m.known) false l a.knowns.now c.loop-i.knowns k w _ v.knowns_kept;
      found = found_next c.args.d.position l k w m e v.found c.good_with-sound.ensures c.first_full_with-first_full.ensures c.least_end_with-least_end.ensures;
      ids_written = written_next (λ m. m.id) 0 l c.loop-i.ids k (omega arith) m e v.ids_written;
      knowns_written = written_next (λ m. m.known) false l c.loop-i.knowns k (omega arith) m e v.knowns_written;
    }

pub returns : goal.returns
unfolding good_state_with
returns c =
    let many : length (take c.args.d.open_count c.args.d.«open») ≡ min c.args.d.open_count 32 =
    let h : length c.args.d.«open» ≡ 32 = search length_of_map in
    length-take c.args.d.open_count c.args.d.«open» ∙ rw h in
    let d = c.args.d in
    let l = take d.open_count d.«open» in
    let v = c.loop-i.invariant in
    let z : c.loop-i.i ≤ 0 = c.loop-i-test.false in
    let n = many in
    let fits : length l ≤ length c.args.ids.now = omega (arith, v.short, c.requires.0) in
    let fits' : length l ≤ length c.args.knowns.now = omega (arith, v.short, c.requires.1) in (
      rw (c.is_state_good.ensures, found_sound d.position l v.found z, found_done d.position l v.found z, found_least d.position l v.found z),
      record {
        many = n;
        ids_left = rw (← n) (written_all (λ m. m.id) 0 l c.args.ids.now c.loop-i.ids refl z fits (v.ids_long ∙ sym c.requires.0) v.ids_written v.ids_kept);
        knowns_left = rw (← n) (written_all (λ m. m.known) false l c.args.knowns.now c.loop-i.knowns refl z fits' (v.knowns_long ∙ sym c.requires.1) v.knowns_written v.knowns_kept);
      },
    )
