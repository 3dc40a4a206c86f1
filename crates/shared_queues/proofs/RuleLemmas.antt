-- Each step keeps the rule of a shared queue.
-- A step changes one account or two, so each total changes by what these have more (`total_of-set`); and what two
-- lists weigh together is the sum. Accounts without shares stay empty, since only one with shares pushes or pops. Who
-- has all shares has all of each total, and so learns what is left (`balances`).
use Rattle.std.proofs.Common.{◌≡◌, ◌≢◌, ℕ, ◌+◌, ◌-◌, ◌<◌, List, [], ◌∷◌, ◌++◌, set, sym, refl, ap, ◌∙◌, subst, ⊎_elim, arith}
use mathlib.Core.Option.{some, some-ne-none}
use lib.ListN.{get_elem?}
use Rattle.crossbeam_queue.specs.Fifo.{Forks, Learns, Merges, Pops, Pushes}
use Rattle.crossbeam_queue.proofs.Lists.{at_set, at_snoc}
use Rattle.shared_queues.specs.declared.entries.Entries.{Entries}
use Rattle.shared_queues.specs.Accounts.{IdleAreEmpty, AddUp, IsLeft, all_shares, closed_entries, first_entries, joined_entries, new_entries, total_of, weight_of, with_less, with_popped, with_pushed}
use Rattle.shared_queues.proofs.TotalLemmas.{total_of-set, total_of-snoc, total_of-whole}
use Rattle.shared_queues.proofs.WeightLemmas.{weight_of-append, weight_of-snoc}

module _ {T : Type 0} where
  -- an account shows nothing
  abbrev ShowsNothing : Entries T → Type 0
  ShowsNothing a = (a.pushed ≡ []) × (a.popped ≡ [])

  -- accounts without shares stay empty where one changes that has shares, or that is empty itself
  idle-set : (accounts : List (Entries T)) (place : ℕ) (new : Entries T)
      → (new.shares ≡ 0 → ShowsNothing new) → IdleAreEmpty accounts
      → IdleAreEmpty (set accounts place new)
  idle-set accounts place new here idle k a at none =
      ⊎_elim (λ (x : (k ≡ place) × (new ≡ a)).
      let is = x.1 in
      subst ShowsNothing is (here (ap (λ (b : Entries T). b.shares) is ∙ none)))
      (λ (x : (k ≢ place) × (get_elem? accounts k ≡ some a)). idle k a x.1 none)
      (at_set accounts place k new a at)

  -- and where another one is added that has shares
  idle-snoc : (accounts : List (Entries T)) (new : Entries T)
      → (new.shares ≡ 0 → ShowsNothing new) → IdleAreEmpty accounts
      → IdleAreEmpty (accounts ++ new ∷ [])
  idle-snoc accounts new here idle k a at none =
      ⊎_elim (λ (was : get_elem? accounts k ≡ some a). idle k a was none)
      (λ (is : new ≡ a). subst ShowsNothing is (here (ap (λ (b : Entries T). b.shares) is ∙ none)))
      (at_snoc accounts new a k at)

  -- a new queue
  pub begins : AddUp {T = T} [] (first_entries ∷ [])
  begins = record {
    shares = refl;
    often = λ weigh. refl;
    idle = idle-snoc [] first_entries (λ none. absurd (omega arith))
        (λ k a at none. absurd (some-ne-none a (sym at)));
  }

  -- an item is pushed
  pub pushes : (places place : ℕ) (a : Entries T) (item : T) → 0 < a.shares
      → Pushes AddUp places place a item (λ new. new ≡ with_pushed a item)
  pushes places place a item has items accounts room balanced at =
      let new = with_pushed a item in (
        new,
        record {
          shares =
              let s = total_of-set (λ (b : Entries T). b.shares) accounts place a new at in
              omega (arith, balanced.shares);
          often = λ weigh.
              let s =
              total_of-set (λ (b : Entries T). weight_of weigh b.pushed)
              accounts place a new at in
              let t =
              total_of-set (λ (b : Entries T). weight_of weigh b.popped)
              accounts place a new at in
              omega (
                arith,
                balanced.often weigh,
                weight_of-snoc weigh a.pushed item,
                weight_of-snoc weigh items item,
              );
          idle = idle-set accounts place new (λ none. absurd (omega arith)) balanced.idle;
        },
        refl,
      )

  -- an item is popped
  pub pops : (place : ℕ) (a : Entries T) → 0 < a.shares
      → Pops AddUp place a (λ item new. new ≡ with_popped a item)
  pops place a has item items accounts balanced at =
      let new = with_popped a item in (
        new,
        record {
          shares =
              let s = total_of-set (λ (b : Entries T). b.shares) accounts place a new at in
              omega (arith, balanced.shares);
          often = λ weigh.
              let s =
              total_of-set (λ (b : Entries T). weight_of weigh b.pushed)
              accounts place a new at in
              let t =
              total_of-set (λ (b : Entries T). weight_of weigh b.popped)
              accounts place a new at in
              omega (arith, balanced.often weigh, weight_of-snoc weigh a.popped item);
          idle = idle-set accounts place new (λ none. absurd (omega arith)) balanced.idle;
        },
        refl,
      )

  -- an account is opened
  pub opens : (place : ℕ) (a : Entries T) → 1 < a.shares
      → Forks AddUp place a (with_less a) new_entries
  opens place a has items accounts balanced at =
      let less = with_less a in
      let new : Entries T = new_entries in
      let changed = set accounts place less in record {
        shares =
            let s = total_of-set (λ (b : Entries T). b.shares) accounts place a less at in
            let t = total_of-snoc (λ (b : Entries T). b.shares) changed new in
            omega (arith, balanced.shares);
        often = λ weigh.
            let s =
            total_of-set (λ (b : Entries T). weight_of weigh b.pushed)
            accounts place a less at in
            let t =
            total_of-set (λ (b : Entries T). weight_of weigh b.popped)
            accounts place a less at in
            let u =
            total_of-snoc (λ (b : Entries T). weight_of weigh b.pushed)
            changed new in
            let v =
            total_of-snoc (λ (b : Entries T). weight_of weigh b.popped)
            changed new in
            omega (arith, balanced.often weigh);
        idle = idle-snoc changed new (λ none. (refl, refl))
            (idle-set accounts place less (λ none. absurd (omega arith)) balanced.idle);
      }

  -- two accounts that show nothing show nothing as one
  nothing-joined_entries : (a b : Entries T) → ShowsNothing a → ShowsNothing b
      → ShowsNothing (joined_entries a b)
  nothing-joined_entries a b left right = (cc (left.0, right.0), cc (left.1, right.1))

  -- an account that isn't the one that changed was there before
  there-before : (accounts : List (Entries T)) (place other : ℕ) (new b : Entries T)
      → ¬ (other ≡ place) → get_elem? (set accounts place new) other ≡ some b
      → get_elem? accounts other ≡ some b
  there-before accounts place other new b apart there =
      ⊎_elim (λ (x : (other ≡ place) × (new ≡ b)). absurd (apart x.0))
      (λ (x : (other ≢ place) × (get_elem? accounts other ≡ some b)). x.1)
      (at_set accounts place other new b there)

  -- an account is closed
  pub closes : (place : ℕ) (a : Entries T) (other : ℕ) (b : Entries T)
      → Merges AddUp place a other b (joined_entries a b) closed_entries
  closes place a other b items accounts balanced at apart there =
      let both = joined_entries a b in
      let spent : Entries T = closed_entries in
      let changed = set accounts place both in record {
        shares =
            let s = total_of-set (λ (b : Entries T). b.shares) accounts place a both at in
            let t = total_of-set (λ (b : Entries T). b.shares) changed other b spent there in
            omega (arith, balanced.shares);
        often = λ weigh.
            let s =
            total_of-set (λ (b : Entries T). weight_of weigh b.pushed)
            accounts place a both at in
            let t =
            total_of-set (λ (b : Entries T). weight_of weigh b.popped)
            accounts place a both at in
            let u =
            total_of-set (λ (b : Entries T). weight_of weigh b.pushed)
            changed other b spent there in
            let v =
            total_of-set (λ (b : Entries T). weight_of weigh b.popped)
            changed other b spent there in
            omega (
              arith,
              balanced.often weigh,
              weight_of-append weigh a.pushed b.pushed,
              weight_of-append weigh a.popped b.popped,
            );
        idle = idle-set changed other spent (λ none. (refl, refl))
            (idle-set accounts place both
            (λ none. nothing-joined_entries a b (balanced.idle place a at (omega arith))
            (balanced.idle other b (there-before accounts place other both b apart there)
            (omega arith)))
            balanced.idle);
      }

  -- who has all shares learns what is left
  pub balances : (place : ℕ) (a : Entries T)
      → Learns AddUp place a (λ items. a.shares ≡ all_shares → IsLeft a items)
  balances place a items accounts balanced at whole weigh =
      let all : total_of (λ (b : Entries T). b.shares) accounts ≡ a.shares =
      omega (arith, balanced.shares) in
      let pushed = total_of-whole (λ (b : Entries T). weight_of weigh b.pushed) accounts place a at
      (λ k b is none. ap (weight_of weigh) (balanced.idle k b is none).0) all in
      let popped = total_of-whole (λ (b : Entries T). weight_of weigh b.popped) accounts place a at
      (λ k b is none. ap (weight_of weigh) (balanced.idle k b is none).1) all in
      omega (arith, balanced.often weigh, weight_of-append weigh a.popped items)
