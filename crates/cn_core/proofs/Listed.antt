-- The two lists of what a session owes, as the sets of which its message is made.
use Rattle.std.proofs.Common.{◌≡◌, List, Option, Some, None, refl, sym, ◌∙◌}
use Rattle.std.specs.FinMap as fin
use Rattle.cn_base.specs.Cidr.{Cidr}
use Rattle.cn_base.specs.declared.route.Attributes.{Attributes}
use Rattle.cn_rib.specs.PrefixSet as set
use Rattle.cn_core.specs.declared.owed.Owed.{Owed}
use Rattle.cn_core.specs.Owed.{OwedMap, without}
use Rattle.cn_core.specs.OwedLists.{IsListed, due_of, is_announcement, is_withdrawal, without_all}
use Rattle.cn_core.proofs.Messages.{announced-without, is_announced_value, is_withdrawn_value, withdrawn-without}

withdrawal_is : (v : Option (Option Attributes)) → is_withdrawal (due_of v) ≡ is_withdrawn_value v
withdrawal_is None = refl
withdrawal_is (Some None) = refl
withdrawal_is (Some (Some w)) = refl

announcement_is : (v : Option (Option Attributes))
    → is_announcement (due_of v) ≡ is_announced_value v
announcement_is None = refl
announcement_is (Some None) = refl
announcement_is (Some (Some w)) = refl

module _ (m : OwedMap) (x : Owed) (is : IsListed m x) where
  -- the first list has what is to be withdrawn
  pub listed-withdrawn : (q : Cidr)
      → set.contains x.withdrawals q ≡ is_withdrawn_value (fin.get m q)
  listed-withdrawn q = is.withdrawals q ∙ withdrawal_is (fin.get m q)

  -- the second has what is to be announced
  pub listed-announced : (q : Cidr)
      → set.contains x.announcements q ≡ is_announced_value (fin.get m q)
  listed-announced q = is.announcements q ∙ announcement_is (fin.get m q)

  -- without some prefixes, they are the lists of what is owed without these
  pub listed-without : (ps : List Cidr) → IsListed (without m ps) (without_all x ps)
  listed-without ps =
      record {
        withdrawals = λ q.
            withdrawn-without m x.withdrawals x.announcements listed-withdrawn listed-announced ps
            q
            ∙ sym (withdrawal_is (fin.get (without m ps) q));
        announcements = λ q.
            announced-without m x.withdrawals x.announcements listed-withdrawn listed-announced ps
            q
            ∙ sym (announcement_is (fin.get (without m ps) q));
      }
