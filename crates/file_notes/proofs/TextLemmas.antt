-- The texts of episodes.
use Rattle.file_notes.proofs.Terms.{List, [], add-zero, ap, append-nil, append_assoc, arith, length, suc, sym, take, ℕ, ◌++◌, ◌+◌, ◌∙◌, ◌∷◌, ◌≡◌, Episode, Form, episode_text, head_text, episode_texts, told_text}

-- one more episode is numbered by how many were there
pub one_more : (form : Form) (number : ℕ) (episodes : List Episode) (e : Episode)
    → episode_texts form number (episodes ++ e ∷ []) ≡ episode_texts form number episodes ++ episode_text (number + length episodes) e form
one_more form number [] e = append-nil (episode_text number e form) ∙ ap (λ n. episode_text n e form) (sym (add-zero number))
one_more form number (first ∷ episodes) e =
    let place : suc number + length episodes ≡ number + suc (length episodes) = omega arith in
    ap (λ l. episode_text number first form ++ l) (one_more form (suc number) episodes e ∙ ap (λ n. episode_texts form (suc number) episodes ++ episode_text n e form) place)
    ∙ sym (append_assoc (episode_text number first form) (episode_texts form (suc number) episodes) (episode_text (number + suc (length episodes)) e form))

-- the texts of some episodes and of others behind them
pub texts_behind : (form : Form) (number : ℕ) (earlier episodes : List Episode)
    → episode_texts form number (earlier ++ episodes) ≡ episode_texts form number earlier ++ episode_texts form (number + length earlier) episodes
texts_behind form number [] episodes = ap (λ n. episode_texts form n episodes) (sym (add-zero number))
texts_behind form number (first ∷ earlier) episodes =
    let place : suc number + length earlier ≡ number + suc (length earlier) = omega arith in
    ap (λ l. episode_text number first form ++ l) (texts_behind form (suc number) earlier episodes ∙ ap (λ n. episode_texts form (suc number) earlier ++ episode_texts form n episodes) place)
    ∙ sym (append_assoc (episode_text number first form) (episode_texts form (suc number) earlier) (episode_texts form (number + suc (length earlier)) episodes))

-- one more episode, which a loop has come to
pub one_more_told : (form : Form) (episodes : List Episode) (i : ℕ) (e : Episode) (bytes longer text : List ℕ) → take (i + 1) episodes ≡ take i episodes ++ e ∷ [] → length (take i episodes) ≡ i
    → bytes ≡ told_text form (take i episodes) → text ≡ episode_text i e form → longer ≡ bytes ++ text → longer ≡ told_text form (take (i + 1) episodes)
one_more_told form episodes i e bytes longer text more count are is added =
    let place : 0 + length (take i episodes) ≡ i = omega (arith, count) in
    added ∙ ap (λ l. l ++ text) are ∙ ap (λ l. told_text form (take i episodes) ++ l) is
    ∙ append_assoc (head_text form) (episode_texts form 0 (take i episodes)) (episode_text i e form)
    ∙ ap (λ l. head_text form ++ l) (ap (λ n. episode_texts form 0 (take i episodes) ++ episode_text n e form) (sym place) ∙ sym (one_more form 0 (take i episodes) e))
    ∙ ap (λ l. told_text form l) (sym more)
