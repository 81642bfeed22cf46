-- No promise has a second outcome: it is an equation, for the answer and for each byte that is written.
use mathlib.Core.Path.{◌≡◌, sym, ◌∙◌}
use Rattle.demands.specs.Promises.{Unique}

one : {A : Type 0} {a x y : A} → x ≡ a → y ≡ a → x ≡ y
one p q = p ∙ sym q

pub unique : Unique
unique =
    record {
      check = λ h m a a' b b' p q. (one p.0 q.0, one p.1 q.1);
      find-key = λ h us r r' p q. one p q;
      value-info = λ h us x r r' p q. one p q;
      view-info = λ h us x r r' p q. one p q;
      value-view = λ h us x hive a a' b b' p q. (one p.0 q.0, one p.1 q.1);
      value-copy = λ h us x out a a' b b' p q. (one p.0 q.0, one p.1 q.1);
      quick-key = λ h us r r' p q. one p q;
      quick-info = λ h us x r r' p q. one p q;
      quick-view-info = λ h us x r r' p q. one p q;
      quick-view = λ h us x hive a a' b b' p q. (one p.0 q.0, one p.1 q.1);
      quick-copy = λ h us x out a a' b b' p q. (one p.0 q.0, one p.1 q.1);
      child-of = λ h o x r r' p q. one p q;
      quick-child-of = λ h o x r r' p q. one p q;
      value_of = λ h o x r r' p q. one p q;
      nth-subkey = λ h o n r r' p q. one p q;
      nth-value = λ h o n r r' p q. one p q;
      info-at = λ h v r r' p q. one p q;
      copy-at = λ h v out a a' b b' p q. (one p.0 q.0, one p.1 q.1);
      key-facts = λ h o r r' p q. one p q;
      key-class = λ h o r r' p q. one p q;
      key-security = λ h o r r' p q. one p q;
      walk-begin = λ h ws a a' b b' p q. (one p.0 q.0, one p.1 q.1);
      walk_step = λ h ws n a a' b b' p q. (one p.0 q.0, one p.1 q.1);
      export-step = λ h m n out a a' b b' p q. (one p.0 q.0, one p.1 q.1);
      export-begin = λ h m ws a a' b b' p q. (one p.0 q.0, one p.1 q.1);
      export-run = λ h ws c out a a' b b' p q. (one p.0 q.0, one p.1 q.1);
      measure = λ s n r r' p q. one p q;
      build = λ s sd out a a' b b' p q. (one p.0 q.0, one p.1 q.1);
      next-remnant = λ h from r r' p q. one p q;
      remnants = λ h from rows a a' b b' p q. (one p.0 q.0, one p.1 q.1);
      start = λ h l r r' p q. one p q;
      page = λ h l n a a' b b' p q. (one p.0 q.0, one p.1 q.1);
      close = λ h l a a' b b' p q. (one p.0 q.0, one p.1 q.1);
      next-page = λ l from r r' p q. one p q;
      all-pages = λ h l a a' b b' p q. (one p.0 q.0, one p.1 q.1);
      next-mark = λ l from r r' p q. one p q;
      mark-pages = λ l m a a' b b' p q. (one p.0 q.0, one p.1 q.1);
      log_facts = λ l r r' p q. one p q;
      settle = λ h a a' b b' p q. (one p.0 q.0, one p.1 q.1);
      compare-units = λ a b r r' p q. one p q;
    }
