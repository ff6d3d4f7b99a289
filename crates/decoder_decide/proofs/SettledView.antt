-- A look at the record: that it shows all open masters, and what is seen of the record once it has settled to a path.
-- Assumes nothing.
use Prim.Native.Nat.{ℕ, zero, suc, ◌+◌, ◌-◌, ◌^◌, min, ◌<◌}
use mathlib.Core.Path.{◌≡◌, refl, sym, ap, ◌∙◌}
use mathlib.Core.Bool.{Bool, false}
use mathlib.Core.List.{List, [], ◌∷◌, map}
use native.Mathlib.Decide.{dec_lt}
use native.Mathlib.Omega.{arith}
use lib.ListN.{length, get_or, set, length-map}
use lib.Seq.{get_or-set_same, get_or-set_other}
use Rattle.table.specs.declared.types.PathPart.{PathPart}
use Rattle.table.specs.declared.types.PathPart.TheVariants.{Id, Global}
use Rattle.spec_util.specs.Walk.{most_open, no_tag, Shown}
use Rattle.spec_util.specs.declared.types.OpenTag.{OpenTag}
use Rattle.decoder_rules.specs.Record.{opens, implied, with_open, with_notes, settled_to}
use Rattle.decoder_rules.specs.declared.types.TagDecoder.{TagDecoder}
use Rattle.decoder_rules.proofs.GoodState.{good_state_lem}
use Rattle.basics.proofs.ArrayOf32.{filled_front}
use Rattle.decoder_look.specs.Summary.{shown_end, least_end, header_view, summary}
use Rattle.decoder_look.specs.declared.summary.Summary.{Summary}
use Rattle.decoder_look.specs.declared.summary.HeaderView.{HeaderView}
use Rattle.decoder_decide.specs.GoodViews.{GoodView, SoundSummary, settled_view}

-- a look at a record is sound
pub sound_summary : {k : Summary} (d : TagDecoder) → k ≡ summary d → SoundSummary k
sound_summary d e = rw e (λ g. let s = good_state_lem d g in record { few_open = s.open_count; near = s.place })

-- in a good state, all open masters are shown
pub all_shown : {ids : List ℕ} {knowns : List Bool} {k : Summary} (d : TagDecoder) → k ≡ summary d → GoodView k.view
    → Shown ids knowns (min d.open_count most_open) (opens d) → Shown ids knowns k.view.count (opens d)
all_shown {k} d e g shown =
    let n : k.view.count ≡ d.open_count = ap (λ (x : Summary). x.view.count) e in
    let m : min d.open_count most_open ≡ k.view.count = omega (arith, g.few_open) in
    rw m at shown

-- ---- a record that has settled to a path

-- the masters are those that the path implies
settled_opens : (d : TagDecoder) (path : List PathPart) → opens (settled_to d path) ≡ map implied path
unfolding settled_to with_open
settled_opens d path = filled_front no_tag (map implied path) (length path) (length-map path implied)

-- none of them is of known size
implied_unknown : (p : PathPart) → (implied p).known ≡ false
implied_unknown (Id x) = refl
implied_unknown (Global min max) = refl

least_implied : (path : List PathPart) → least_end (map implied path) ≡ 2 ^ 64 - 1
unfolding least_end shown_end
least_implied [] = refl
least_implied (p ∷ path) = rw (implied_unknown p, least_implied path)

-- so it is seen with so many masters, none of known size
pub settled_seen : {s : HeaderView} (d : TagDecoder) (path : List PathPart) → s ≡ header_view d → settled_view s (length path) ≡ header_view (settled_to d path)
unfolding settled_to with_open with_notes
settled_seen d path e = rw (e, settled_opens d path, least_implied path)

implied_at : (path : List PathPart) (i : ℕ) → get_or (map implied path) i no_tag ≡ implied (get_or path i (Id 0))
implied_at [] i = refl
implied_at (p ∷ path) zero = refl
implied_at (p ∷ path) (suc i) = implied_at path i

-- the first n words are the IDs of the first n parts
abbrev pub ImpliedIds : List ℕ → List PathPart → ℕ → Type 0
ImpliedIds ids path n = (i : ℕ) → i < n → get_or ids i 0 ≡ (implied (get_or path i (Id 0))).id

-- one word more
pub implied_next : (ids : List ℕ) (path : List PathPart) (n : ℕ) {x : ℕ} → ImpliedIds ids path n → n < length ids → x ≡ (implied (get_or path n (Id 0))).id
    → ImpliedIds (set ids n x) path (n + 1)
implied_next ids path n {x} p h e i k = go (dec_lt i n)
  where
    go : Dec (i < n) → get_or (set ids n x) i 0 ≡ (implied (get_or path i (Id 0))).id
    go (yes l) = get_or-set_other ids n i x 0 (λ q. omega arith) ∙ p i l
    go (no f) = let q : i ≡ n = omega arith in rw (q, get_or-set_same ids n x 0 h, e)

-- so the words show its masters
pub settled_shown : {ids : List ℕ} {knowns : List Bool} (d : TagDecoder) (path : List PathPart) → ImpliedIds ids path (length path)
    → ((i : ℕ) → i < length path → get_or knowns i false ≡ false) → Shown ids knowns (length path) (opens (settled_to d path))
settled_shown d path p q =
    rw (settled_opens d path)
    (record {
      shown_ids = record { many = length-map path implied; ids_are = λ i h. p i h ∙ ap (λ (m : OpenTag). m.id) (sym (implied_at path i)) };
      knowns_are = λ i h. q i h ∙ sym (ap (λ (m : OpenTag). m.known) (implied_at path i) ∙ implied_unknown (get_or path i (Id 0)));
    })
